use Rattle.std.proofs.Common.{◌≡◌, ℕ, ◌∙◌, length, refl, sym, ap, subst, arith}
use Rattle.std.specs.Prelude.{reverse, slice_index}
use Rattle.std.proofs.lemmas.List.{length-reverse, length_push, reverse-append}
use Rattle.sqz_trace.specs.Edges.{OutEdges, out_edges, strong_slots, HasEdge}
use Rattle.sqz_trace.proofs.TargetLemmas.{IsTargetAmong-edge}
use Rattle.sqz_dominators.specs.declared.path.Step.{Step}
use Rattle.sqz_dominators.specs.Paths.{IsFirstSlotTo, LeadsBySlots}
use Rattle.sqz_dominators.proofs.PathLemmas.{IsReadBack, found-is, before-earlier, before-edge, before-deep, before-is}
use Rattle.sqz_dominators.proofs.path.path_back.Goals as goal
use Rattle.sqz_dominators.proofs.path.path_back.Goals.{After-edges-arg-1}

-- what was read of the object at the place, and of the one before
read : (c : After-edges-arg-1)
    → IsReadBack c.args.search.now.graph.heap.now c.args.search.now.graph.weak c.args.search.now.found.items c.args.search.now.places.items
    c.args.search.now.from.items c.loop-next.next c.index-object.result.now c.index.result.now
read c =
    record {
      law = c.requires.whole;
      here = c.loop-next.invariant.inside;
      some = c.loop-next-test.true;
      object_is = c.index-object.ensures;
      before_is = c.index.ensures;
    }

pub index-requires : goal.index-requires
index-requires c =
    omega (arith, c.loop-next.invariant.inside, c.requires.whole.search.linked, c.args.search.now.from.ok.0)

pub index-requires-in-loop-next : goal.index-requires-in-loop-next
index-requires-in-loop-next c =
    omega (arith, before-earlier _ _ _ _ _ _ _ _ (read c), c.loop-next.invariant.inside, c.args.search.now.found.ok.0)

pub edges-edges-requires : goal.edges-edges-requires
edges-edges-requires c =
    let read = read (goal.at.edges-edges-requires c).After-edges-arg-1 in
    let is = before-is _ _ _ _ _ _ _ _ read c.index-in-loop-next.result.now c.index-in-loop-next.ensures in
    let earlier = before-earlier _ _ _ _ _ _ _ _ read in
    omega (arith, is, c.requires.whole.search.order.inside c.index.result.now (omega (arith, earlier, c.loop-next.invariant.inside)))

pub loop-next-smaller : goal.loop-next-smaller
loop-next-smaller c = before-earlier _ _ _ _ _ _ _ _ (read (goal.at.loop-next-smaller c).After-edges-arg-1)

pub loop-next-preserved : goal.loop-next-preserved
loop-next-preserved c =
    let read = read (goal.at.loop-next-preserved c).After-edges-arg-1 in
    let so_far = c.loop-next.invariant in
    let memory = c.args.search.now.graph.heap.now in
    let found = c.args.search.now.found.items in
    let object = c.index-object.result.now in
    let step : Step = record { slot = c.in-Some.slot; object = object } in
    let pushed = c.in_ok-push-in-Some.ensures.items in
    let end = slice_index found c.args.place in
    let is = found-is _ _ _ _ _ _ _ _ read in
    let there = before-is _ _ _ _ _ _ _ _ read c.index-in-loop-next.result.now c.index-in-loop-next.ensures in
    let rest = subst (λ (i : ℕ). LeadsBySlots memory c.args.search.now.graph.weak i (reverse c.loop-next.steps.items) end) (sym is) so_far.leads in
    let leads = subst (λ (it : OutEdges). IsFirstSlotTo it object c.in-Some.slot) c.edges-edges.ensures c.in-Some.ensures.first in
    let first = subst (λ (i : ℕ). IsFirstSlotTo (out_edges memory c.args.search.now.graph.weak i) object c.in-Some.slot) there leads in
    record {
      inside = omega (arith, before-earlier _ _ _ _ _ _ _ _ read, so_far.inside);
      leads = rw (pushed, reverse-append) (first, rest);
      deep = λ law.
          omega (
            arith,
            before-deep _ _ _ _ _ _ _ _ (record read { law = law }),
            so_far.deep law,
            ap length pushed,
            length_push c.loop-next.steps.items step,
          );
    }

pub unreachable-requires : goal.unreachable-requires
unreachable-requires c =
    let read = read (goal.at.unreachable-requires c).After-edges-arg-1 in
    let there = before-is _ _ _ _ _ _ _ _ read c.index-in-loop-next.result.now c.index-in-loop-next.ensures in
    let search = c.args.search.now in
    let object = c.index-object.result.now in
    let edge = subst (λ (i : ℕ). HasEdge search.graph.heap.now search.graph.weak i object) (sym there) (before-edge _ _ _ _ _ _ _ _ read) in
    c.in-None.ensures.none
    (IsTargetAmong-edge search.graph.heap.now search.graph.weak c.index-in-loop-next.result.now c.edges-edges.result c.edges-edges.ensures
    (strong_slots c.edges-edges.result) refl object edge)

pub returns : goal.returns
returns c =
    let so_far = c.loop-next.invariant in
    let memory = c.args.search.now.graph.heap.now in
    let found = c.args.search.now.found.items in
    let first : c.loop-next.next ≡ 0 = omega (arith, c.loop-next-test.false) in
    let all = c.reverse.ensures.items in
    record {
      leads = rw all
          (subst (λ (i : ℕ). LeadsBySlots memory c.args.search.now.graph.weak (slice_index found i) (reverse c.loop-next.steps.items)
          (slice_index found c.args.place)) first so_far.leads);
      deep = λ law.
          let depths = law.search.depths in
          let shallow : slice_index depths c.loop-next.next ≡ 0 = ap (slice_index depths) first ∙ law.search.shallow in
          omega (arith, ap length all, length-reverse c.loop-next.steps.items, so_far.deep law, shallow);
    }
