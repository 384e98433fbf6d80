use Rattle.std.proofs.Common.{◌≡◌, ◌++◌, sym, ap, ◌∙◌, arith}
use Rattle.std.specs.List.{flat_map, range_with_len}
use Rattle.std.proofs.lemmas.List.{append-nil}
use Rattle.sqz_image.specs.Objects.{object_count}
use Rattle.sqz_trace.specs.Edges.{OutEdges, out_edges, strong_slots}
use Rattle.sqz_facts.specs.Referrers.{referrers_among, referrers_from}
use Rattle.sqz_facts.proofs.ReferrerLemmas.{referrers_from-marked, referrers_from-unmarked, referrers-inside}
use Rattle.sqz_facts.proofs.RangeLemmas.{flat_map-next}
use Rattle.sqz_facts.proofs.referrers.referrers_of.Goals as goal
use Rattle.sqz_facts.proofs.referrers.referrers_of.Goals.{then-has+in_ok-push_referrers, else-has}

pub loop-from-init : goal.loop-from-init
loop-from-init c = c.new-found.ensures.items

pub loop-from-preserved : goal.loop-from-preserved
loop-from-preserved c =
    let memory = c.args.live.now.graph.heap.now in
    let weak = c.args.live.now.graph.weak in
    let marks = c.args.live.now.marks in
    let from = c.loop-from.from in
    let here = referrers_from memory weak marks c.args.object in
    let before = flat_map here (range_with_len 0 from) in
    elim c.if-has.branch [
      | then-has+in_ok-push_referrers w ↦
          let marked = referrers_from-marked memory weak marks c.args.object from (sym c.has.ensures ∙ w.if-has.true) in
          rw w.found-is
          (w.in_ok-push_referrers.ensures
          ∙ ap (λ (edges : OutEdges). c.loop-from.found.items ++ referrers_among edges from c.args.object (strong_slots edges)) w.edges.ensures
          ∙ ap (λ items. items ++ referrers_among (out_edges memory weak from) from c.args.object (strong_slots (out_edges memory weak from)))
          c.loop-from.invariant
          ∙ ap (λ last. before ++ last) (sym marked)
          ∙ sym (flat_map-next here from))
      | else-has w ↦
          let unmarked = referrers_from-unmarked memory weak marks c.args.object from (sym c.has.ensures ∙ w.if-has.false) in
          rw w.found-is
          (c.loop-from.invariant
          ∙ sym (append-nil before)
          ∙ ap (λ last. before ++ last) (sym unmarked)
          ∙ sym (flat_map-next here from))
    ]

pub returns-clause-referrers : goal.returns-clause-referrers
returns-clause-referrers c =
    let end : c.loop-from.from ≡ object_count c.args.live.now.graph.heap.now =
    omega (arith, c.loop-from-test.false, c.loop-from.auto.from-end, c.len-from-end.ensures.objects)
    in
    rw end at c.loop-from.invariant

pub returns-clause-inside : goal.returns-clause-inside
returns-clause-inside c =
    let memory = c.args.live.now.graph.heap.now in
    let weak = c.args.live.now.graph.weak in
    let marks = c.args.live.now.marks in
    let end : c.loop-from.from ≡ object_count c.args.live.now.graph.heap.now =
    omega (arith, c.loop-from-test.false, c.loop-from.auto.from-end, c.len-from-end.ensures.objects)
    in
    rw (rw end at c.loop-from.invariant) (referrers-inside memory weak marks c.args.object)
