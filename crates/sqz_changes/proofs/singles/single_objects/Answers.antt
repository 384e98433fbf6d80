use Rattle.std.proofs.Common.{arith, ap, refl, take, List}
use Rattle.std.proofs.lemmas.Grind.{common_steps}
use Rattle.sqz_changes.specs.declared.named.Named.{Named}
use Rattle.sqz_changes.specs.Named.{objects_of, single}
use Rattle.sqz_changes.proofs.ListLemmas.{take-item}
use Rattle.sqz_changes.proofs.NamedLemmas.{single-step}
use Rattle.sqz_changes.proofs.singles.single_objects.Goals as goal
use Rattle.sqz_changes.proofs.singles.single_objects.Goals.{in-None, in-Some}

pub loop-named-preserved : goal.loop-named-preserved
loop-named-preserved g c name =
    let cmp = g.N.Ord.cmp in
    let named : Named g.row.N.Denot = c.named-item.result in
    let listed : List (Named g.row.N.Denot) = c.args.listed.now in
    let more = ap (λ (xs : List (Named g.row.N.Denot)). single (objects_of g.N.Ord.cmp name xs))
    (take-item listed c.loop-named.named-index named (omega (arith, c.loop-named-test.true, c.loop-named.auto.named-index-end)) c.named-item.is) in
    let step = single-step g.N.Ord.cmp g.met.N.Ord.total (take c.loop-named.named-index listed) named name (g.N.Ord.cmp named.name name) refl in
    let known = c.loop-named.invariant named.name in
    let before = c.loop-named.invariant name in
    elim c.match-get.branch [
      | in-None w ↦ grind (arith, common_steps, more, step, known, before)
      | in-Some w ↦ grind (arith, common_steps, more, step, known, before)
    ]
