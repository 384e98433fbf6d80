use Rattle.std.proofs.Common.{◌≤◌, subst}
use Rattle.sqz_marks.proofs.CallLemmas.{look_owes}
use Rattle.sqz_marks.proofs.table.MarkTable.look.Goals as goal

pub load-requires : goal.load-requires
load-requires c =
    let marks = c.self.inside in let shared = marks.table.shared in let pass = c.pass.inside in
    look_owes c.args.self.now c.args.pass.now c.requires.of shared.table_id shared.key.0.value marks.regions.now shared.key.1
    marks.weak shared.key.2 marks.workers pass.workers c.self.view_is c.self.invariant.1 c.self.invariant.2 c.self.invariant.4
    pass.seat.table_id pass.seat.id pass.seat.me c.pass.view_is c.args.object c.requires.inside
    (subst (λ n. 1 ≤ n) c.pass.invariant.1 c.pass.invariant.2)
