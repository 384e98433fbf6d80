use Rattle.std.proofs.Common.{◌≡◌, ◌&&◌, not, sym, ap, ◌∙◌, arith}
use Rattle.std.proofs.lemmas.Result.{IfOk-weaker}
use Rattle.sqz_image.specs.Objects.{object_count}
use Rattle.sqz_trace.specs.Graph.{is_marked}
use Rattle.sqz_trace.proofs.DeadLemmas.{AreThoseBelow-other, AreThoseBelow-push, AreMarkedBy-made}
use Rattle.sqz_trace.proofs.differences.difference.Goals as goal
use Rattle.sqz_trace.proofs.differences.difference.Goals.{then-has, else-has, then-is_left+in_ok-push, else-is_left}

pub loop-object-preserved : goal.loop-object-preserved
loop-object-preserved c =
    let object = c.loop-object.object in
    let is : c.if-has.is_left ≡ (is_marked c.args.marks.now object && not (is_marked c.args.others.now object)) =
    elim c.if-has.branch [
      | then-has w ↦ rw (sym c.has.ensures ∙ w.if-has.true) (w.is_left-is ∙ ap not w.has-then-has.ensures)
      | else-has w ↦ rw (sym c.has.ensures ∙ w.if-has.false) (w.is_left-is ∙ w.if-has.false)
    ] in
    elim c.if-is_left.branch [
      | then-is_left+in_ok-push w ↦
          rw (w.objects-is, w.in_ok-push.ensures.items)
          (AreThoseBelow-push _ _ _ c.loop-object.invariant (sym is ∙ w.if-is_left.true))
      | else-is_left w ↦ rw w.objects-is (AreThoseBelow-other _ _ _ c.loop-object.invariant (sym is ∙ w.if-is_left.false))
    ]

pub returns : goal.returns
returns c =
    let end : c.loop-object.object ≡ object_count c.args.heap.now =
    omega (arith, c.loop-object-test.false, c.loop-object.auto.object-end, c.len-object-end.ensures.objects) in
    IfOk-weaker c.listed.result _ _
    (λ rest listed.
    let are = AreMarkedBy-made _ rest _ c.loop-object.object _ c.deref.result.now end c.deref.ensures.value c.loop-object.invariant listed in
    record { sized = are.sized; each = are.each })
    c.listed.ensures
