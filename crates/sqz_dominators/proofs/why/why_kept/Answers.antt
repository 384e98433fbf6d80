use Rattle.std.proofs.Common.{◌≡◌, sym, ap, ◌∙◌}
use Rattle.std.proofs.lemmas.Option.{same_Some}
use Rattle.sqz_dominators.specs.Children.{retained_bytes}
use Rattle.sqz_dominators.specs.declared.retained.Retained.{Retained}
use Rattle.sqz_dominators.specs.Why.{why_steps}
use Rattle.sqz_dominators.proofs.WhyLemmas.{weakly-held}
use Rattle.sqz_dominators.proofs.why.why_kept.Goals as goal

pub returns-clause-path : goal.returns-clause-path
returns-clause-path c =
    let shortest = rw (c.in-Some.is, c.in_ok-search.ensures.same) at c.in_ok-path.ensures.path in
    let tree = c.in_ok-dominators.dominators in
    let steps = c.in-Some.path.steps.items in
    let same : c.special-special.result ≡ shortest.start = same_Some _ _ (sym c.special-special.ensures.special ∙ shortest.is_special) in
    let rows = c.in_ok-steps.ensures.steps
    ∙ (λ i. why_steps c.args.graph.heap.now tree (same i) (c.deref.ensures.value i)) in
    record {
      steps = steps;
      shortest = shortest;
      tree = tree;
      dominators = rw c.in_ok-search.ensures.same at c.in_ok-dominators.ensures;
      live_bytes = ap (λ (r : Retained). r.bytes) c.retained.ensures ∙ ap (retained_bytes tree) same;
      retained = ap (λ (r : Retained). r.bytes) c.retained-2.ensures;
      weakly = weakly-held c.args.graph.heap.now c.args.graph.weak tree c.args.object steps _ _ shortest rows
          (rw c.deref-2.ensures.value at c.in_ok-is_weakly_held.ensures);
      rows = rows;
    }
