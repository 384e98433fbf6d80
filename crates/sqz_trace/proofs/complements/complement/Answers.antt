use Rattle.std.proofs.Common.{◌≡◌, not, sym, ap, ◌∙◌, arith}
use Rattle.std.proofs.lemmas.Result.{IfOk-weaker}
use Rattle.sqz_image.specs.Objects.{object_count}
use Rattle.sqz_trace.specs.Avoiding.{MarksListed}
use Rattle.sqz_trace.specs.Dead.{IsComplement}
use Rattle.sqz_trace.specs.Graph.{is_marked}
use Rattle.sqz_trace.proofs.DeadLemmas.{AreThoseBelow-none, AreThoseBelow-other, AreThoseBelow-push}
use Rattle.sqz_trace.proofs.DeadLemmas.{AreMarkedBy-made, live-complement}
use Rattle.sqz_trace.proofs.complements.complement.Goals as goal
use Rattle.sqz_trace.proofs.complements.complement.Goals.{then-not-has+in_ok-push, else-not-has, After-drop-objects-2}

pub loop-object-init : goal.loop-object-init
loop-object-init c = rw c.new-objects.ensures.items (AreThoseBelow-none (λ index. not (is_marked c.args.marks.now index)))

pub loop-object-preserved : goal.loop-object-preserved
loop-object-preserved c =
    let so_far = c.loop-object.invariant in
    elim c.if-not-has.branch [
      | then-not-has+in_ok-push w ↦
          rw (w.objects-is, w.in_ok-push.ensures.items)
          (AreThoseBelow-push _ _ _ so_far (ap not (sym c.has.ensures ∙ w.if-not-has.true)))
      | else-not-has w ↦
          rw w.objects-is (AreThoseBelow-other _ _ _ so_far (ap not (sym c.has.ensures ∙ w.if-not-has.false)))
    ]

-- the marks are the complement
made : (c : After-drop-objects-2) → (others : _) → MarksListed (object_count c.args.heap.now) c.deref.result.now others
    → IsComplement (object_count c.args.heap.now) c.args.marks.now others
made c others listed =
    let end : c.loop-object.object ≡ object_count c.args.heap.now =
    omega (arith, c.loop-object-test.false, c.loop-object.auto.object-end, c.len-object-end.ensures.objects) in
    let are = AreMarkedBy-made _ others _ c.loop-object.object _ c.deref.result.now end c.deref.ensures.value c.loop-object.invariant listed in
    record { sized = are.sized; each = are.each }

pub returns-clause-complement : goal.returns-clause-complement
returns-clause-complement c = IfOk-weaker c.listed.result _ _ (made c) c.listed.ensures

pub returns-clause-dead : goal.returns-clause-dead
returns-clause-dead c =
    IfOk-weaker c.listed.result _ _ (λ others listed. live-complement c.args.heap.now c.args.marks.now others (made c others listed)) c.listed.ensures
