use Rattle.std.proofs.Common.{◌≡◌, ◌<◌, ◌+◌, ◌∙◌, ℕ, List, All, ap, sym, subst, length, arith}
use Rattle.std.proofs.lemmas.Result.{IfOk-weaker}
use Rattle.sqz_histogram.specs.Keys.{key_count}
use Rattle.sqz_answers.specs.Together.{AreGroupKeys}
use Rattle.sqz_answers.proofs.TogetherLemmas.{AreRetainedByGroups-from_keys}
use Rattle.sqz_answers.proofs.TopRowLemmas.{retained_bytes-small}
use Rattle.sqz_answers.proofs.together.retained_by_groups.Goals as goal

pub retained_together-requires : goal.retained_together-requires
retained_together-requires c =
    let graph = c.args.graph in
    let keys = c.in_ok-keys.ensures in
    let bound : key_count c.args.graph.heap.now ≡ c.len.result + 32 = omega (arith, c.len.ensures.objects) in
    record {
      dominators = c.in_ok-dominators.ensures;
      children = c.in_ok-children.ensures;
      few = c.heap_bounds.ensures.objects;
      small = retained_bytes-small graph.heap.now graph.weak c.in_ok-dominators.dominators c.in_ok-dominators.ensures c.heap_bounds.ensures.words;
      sized = ap length c.deref.ensures.value ∙ keys.keys.sized;
      inside = subst (λ (bound : ℕ). All (λ key. key < bound) c.deref.result.now) bound
          (subst (λ (list : List ℕ). All (λ key. key < key_count graph.heap.now) list) (sym c.deref.ensures.value) keys.inside);
    }

pub returns : goal.returns
returns c =
    let graph = c.args.graph in
    IfOk-weaker c.retained_together.result _ _
    (λ sums by_keys.
    (let bound : key_count c.args.graph.heap.now ≡ c.len.result + 32 = omega (arith, c.len.ensures.objects) in
    AreRetainedByGroups-from_keys graph.heap.now graph.weak c.deref.result.now
    (subst (AreGroupKeys graph.heap.now graph.weak) (sym c.deref.ensures.value) c.in_ok-keys.ensures.keys)
    c.in_ok-dominators.dominators c.in_ok-dominators.ensures sums.items (by_keys.sized ∙ sym bound)
    (λ key lt. by_keys.each key (omega (arith, lt, bound)))))
    c.retained_together.ensures
