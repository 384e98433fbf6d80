use Rattle.std.proofs.Common.{◌≤◌, ap, sym, subst, ◌∙◌}
use Rattle.sqz_marks.specs.Table.{SharedMarks, HeldPass}
use Rattle.sqz_marks.proofs.CallLemmas.{join_owes, weigh_owes}
use Rattle.sqz_marks.proofs.table.MarkTable.join_into.Goals as goal

pub join_seat-requires : goal.join_seat-requires
join_seat-requires c =
    let marks = c.self.inside in let shared = marks.table.shared in let pass = c.pass.inside in let other = c.other.inside in
    let table = sym (ap (λ (m : SharedMarks). m.table) c.self.view_is) in
    join_owes shared.table_id shared.key.0.value marks.regions.now shared.key.1 shared.key.2 c.self.invariant.4 c.self.invariant.6
    pass.seat.table_id
    (ap (λ (p : HeldPass). p.table) c.pass.view_is ∙ c.requires.of.0 ∙ table) pass.seat.id pass.seat.me other.seat.table_id
    (ap (λ (p : HeldPass). p.table) c.other.view_is ∙ c.requires.other.0 ∙ table) other.seat.id other.seat.me c.other.invariant.0
    (subst (λ n. 1 ≤ n) c.other.invariant.1 c.other.invariant.2)

pub load-requires : goal.load-requires
load-requires c =
    let marks = c.self.inside in let shared = marks.table.shared in let pass = c.pass.inside in let seat = c.join_seat.new.seat in
    weigh_owes shared.table_id shared.key.0.value marks.regions.now shared.key.1 shared.key.2 c.self.invariant.4 c.self.invariant.6
    seat.table_id
    (c.join_seat.ensures.0 ∙ ap (λ (p : HeldPass). p.table) c.pass.view_is ∙ c.requires.of.0
    ∙ sym (ap (λ (m : SharedMarks). m.table) c.self.view_is)) seat.id seat.me
