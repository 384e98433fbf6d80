use Rattle.std.proofs.Common.{◌≡◌, ◌∙◌, ◌++◌, ℕ, List, length, sym, ap, subst, arith}
use Rattle.std.specs.declared.vec.Vec.{Vec}
use Rattle.std.proofs.lemmas.List.{with_items_is}
use Rattle.std.proofs.lemmas.Result.{IfOk-weaker}
use Rattle.sqz_image.specs.Objects.{object_count}
use Rattle.sqz_trace.specs.Edges.{OutEdges, strong_slots}
use Rattle.sqz_facts.specs.Referrers.{referrers_among}
use Rattle.sqz_facts.specs.FirstReferrers.{AreFirstTwo, AreRows, row_of}
use Rattle.sqz_facts.proofs.FirstReferrerLemmas.{AreFirstTwo-same, references_below, references_below-marked, references_below-unmarked, firsts_are, firsts-inside}
use Rattle.sqz_facts.proofs.first_referrers.first_referrers_of.Goals as goal
use Rattle.sqz_facts.proofs.first_referrers.first_referrers_of.Goals.{then-has, else-has}

pub add_referrers-requires-clause-own : goal.add_referrers-requires-clause-own
add_referrers-requires-clause-own c =
    let are = c.in_ok-rows.ensures in
    let rows = sym c.deref.ensures.value in
    λ one other row at_one at_other.
    sym (are.own one row (ap (λ (found : List _). row_of found one) rows ∙ at_one))
    ∙ are.own other row (ap (λ (found : List _). row_of found other) rows ∙ at_other)

pub loop-from-preserved : goal.loop-from-preserved
loop-from-preserved c =
    let memory = c.args.live.now.graph.heap.now in
    let weak = c.args.live.now.graph.weak in
    let marks = c.args.live.now.marks in
    let from = c.loop-from.from in
    let rows = c.in_ok-rows.rows.items in
    let before = references_below memory weak marks from in
    elim c.if-has.branch [
      | then-has w ↦
          let items = ap (λ (found : Vec _ _). found.items) w.firsts-is
          ∙ with_items_is c.loop-from.firsts w.add_referrers.new.firsts (w.add_referrers.ensures.length ∙ w.deref_mut.ensures.len) in
          let added =
          w.add_referrers.ensures.added before
          (rw w.deref.ensures.value (rw w.deref_mut.ensures.value c.loop-from.invariant.begun)) in
          let marked = sym c.has.ensures ∙ w.if-has.true in
          record {
            same_length =
                ap length items
                ∙ w.add_referrers.ensures.length
                ∙ ap length w.deref_mut.ensures.value
                ∙ c.loop-from.invariant.same_length;
            begun =
                rw items
                (AreFirstTwo-same rows _ _ w.add_referrers.new.firsts (references_below-marked memory weak marks from marked)
                (subst (λ (edges : OutEdges). AreFirstTwo rows (λ object. before object ++ referrers_among edges from object (strong_slots edges)) w.add_referrers.new.firsts)
                w.edges.ensures (rw w.deref.ensures.value at added)));
          }
      | else-has w ↦
          rw w.firsts-is record {
            same_length = c.loop-from.invariant.same_length;
            begun =
                AreFirstTwo-same rows _ _ c.loop-from.firsts.items
                (references_below-unmarked memory weak marks from (sym c.has.ensures ∙ w.if-has.false))
                c.loop-from.invariant.begun;
          }
    ]

pub returns-clause-first : goal.returns-clause-first
returns-clause-first c =
    let memory = c.args.live.now.graph.heap.now in
    let weak = c.args.live.now.graph.weak in
    let marks = c.args.live.now.marks in
    let objects = c.args.objects.now in
    let rows = c.in_ok-rows.rows.items in
    let end : c.loop-from.from ≡ object_count memory =
    omega (arith, c.loop-from-test.false, c.loop-from.auto.from-end, c.len-from-end.ensures.objects)
    in
    let listed =
    subst (λ (count : ℕ). AreRows count (length objects) objects rows) c.len.ensures.objects
    c.in_ok-rows.ensures in
    let all =
    firsts_are memory weak marks rows c.loop-from.firsts.items (rw end at c.loop-from.invariant.begun) objects listed in
    IfOk-weaker c.firsts_of.result _ _ (λ found is. is ∙ all)
    (rw c.deref-2.ensures.value at (rw c.deref-3.ensures.value at c.firsts_of.ensures))

pub returns-clause-inside : goal.returns-clause-inside
returns-clause-inside c =
    IfOk-weaker c.firsts_of.result _ _
    (λ found is.
    rw is
    (firsts-inside c.args.live.now.graph.heap.now c.args.live.now.graph.weak c.args.live.now.marks
    c.args.objects.now))
    (returns-clause-first c)
