use Rattle.std.proofs.Common.{◌∙◌, map, sym, ap, subst, arith, rules}
use Rattle.std.specs.List.Sorted.{IsPermutation, IsSortedBy}
use Rattle.std.proofs.lemmas.Fn.{always_returns_same}
use Rattle.std.proofs.lemmas.List.{take_all}
use Rattle.std.proofs.lemmas.Result.{IfOk-weaker}
use Rattle.sqz_answers.specs.Levels.{is_before}
use Rattle.sqz_answers.proofs.LevelLemmas.{measured_by, measured_key, object_of, IsPermutation-measured, IsMeasured-sorted, in_order-measured}
use Rattle.sqz_answers.proofs.top_tree.TopTree.in_order.Goals as goal
use Rattle.sqz_answers.proofs.top_tree.TopTree.in_order.Goals.{After-sort_unstable_by_key}

-- all objects were measured, and then moved
moved : (c : After-sort_unstable_by_key)
    → IsPermutation (map (measured_by c.args.self.now.dominators.now) c.args.objects.now) c.sort_unstable_by_key.new.self.items
moved c =
    let whole = take_all c.loop-object.object-index c.args.objects.now (omega (arith, c.loop-object-test.false)) in
    rw whole at (rw c.loop-object.invariant at c.sort_unstable_by_key.ensures.permutation)

pub returns-clause-permutation : goal.returns-clause-permutation
returns-clause-permutation c =
    let tree = c.args.self.now.dominators.now in
    let sort = (goal.at.returns-clause-permutation c).After-sort_unstable_by_key in
    IfOk-weaker c.objects_of.result _ _
    (λ sorted its. subst (IsPermutation c.args.objects.now) (sym (its ∙ ap (map (object_of tree)) c.deref.ensures.value))
    (IsPermutation-measured tree c.args.objects.now c.sort_unstable_by_key.new.self.items (moved sort)))
    c.objects_of.ensures

pub returns-clause-sorted : goal.returns-clause-sorted
returns-clause-sorted c =
    let tree = c.args.self.now.dominators.now in
    let sort = (goal.at.returns-clause-sorted c).After-sort_unstable_by_key in
    IfOk-weaker c.objects_of.result _ _
    (λ sorted its. subst (IsSortedBy (is_before tree)) (sym (its ∙ ap (map (object_of tree)) c.deref.ensures.value))
    (in_order-measured tree c.sort_unstable_by_key.new.self.items
    (IsMeasured-sorted tree c.args.objects.now c.sort_unstable_by_key.new.self.items (moved sort))
    (c.sort_unstable_by_key.ensures.sorted (measured_key tree) (always_returns_same _ _ _ (λ a r f h. search rules)))))
    c.objects_of.ensures
