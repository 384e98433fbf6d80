use Rattle.std.proofs.Common.{◌≤◌, ◌<◌, ap, sym, subst, ◌∙◌}
use Rattle.sqz_marks.specs.Table.{SharedMarks}
use Rattle.sqz_marks.proofs.CallLemmas.{split_owes}
use Rattle.sqz_marks.proofs.table.MarkTable.part.Goals as goal

pub split_seat-requires : goal.split_seat-requires
split_seat-requires g c =
    let marks = c.self.inside in let shared = marks.table.shared in let seat = c.args.seat.now in
    split_owes shared.table_id shared.key.0.value marks.regions.now shared.key.1 shared.key.2 c.self.invariant.4 c.self.invariant.6
    seat.table_id
    (c.requires.of ∙ sym (ap (λ (m : SharedMarks). m.table) c.self.view_is)) seat.id seat.me g.W.Share.weight
    (subst (λ n. 1 ≤ n) c.requires.weight c.requires.positive) (subst (λ n. n < seat.me.0.weight) c.requires.weight c.requires.rest)
