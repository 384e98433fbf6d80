use Rattle.std.proofs.Common.{◌+◌, ◌*◌, ◌<◌, sym, ◌∙◌, arith}
use Rattle.sqz_image.specs.Objects.{object_count}
use Rattle.sqz_trace.proofs.LiveWordLemmas.{live_words_more_no}
use Rattle.sqz_regions.proofs.EntryLemmas.{placed, AreEntriesOf-push_marked, AreEntriesOf-push_unmarked}
use Rattle.sqz_regions.proofs.forward.places_between.Goals as goal
use Rattle.sqz_regions.proofs.forward.places_between.Goals.{then-has+in_ok-push, else-has+in_ok-push-2}

pub overflow_add-next : goal.overflow_add-next
overflow_add-next c =
    let at =
    placed c.args.heap.now c.args.marks.now c.loop-object.object c.loop-object.next c.chunk-chunk.result
    (omega arith) (sym c.has.ensures ∙ c.if-has.true) c.chunk-chunk.ensures.described c.chunk-chunk.ensures.headed
    c.requires.within c.loop-object.invariant.next in
    omega (arith, at.0, at.1)

pub overflow_cast-next : goal.overflow_cast-next
overflow_cast-next c =
    let at =
    placed c.args.heap.now c.args.marks.now c.loop-object.object c.loop-object.next c.chunk-chunk.result
    (omega arith) (sym c.has.ensures ∙ c.if-has.true) c.chunk-chunk.ensures.described c.chunk-chunk.ensures.headed
    c.requires.within c.loop-object.invariant.next in
    omega (arith, at.0, at.1)

pub overflow_add-next-then-has : goal.overflow_add-next-then-has
overflow_add-next-then-has c =
    let at =
    placed c.args.heap.now c.args.marks.now c.loop-object.object c.loop-object.next c.chunk-chunk.result
    (omega arith) (sym c.has.ensures ∙ c.if-has.true) c.chunk-chunk.ensures.described c.chunk-chunk.ensures.headed
    c.requires.within c.loop-object.invariant.next in
    omega (arith, at.3)

pub loop-object-preserved : goal.loop-object-preserved
loop-object-preserved c =
    let memory = c.args.heap.now in
    let marks = c.args.marks.now in
    let object = c.loop-object.object in
    let so_far = c.loop-object.invariant in
    let lt : c.loop-object.object < object_count c.args.heap.now = omega arith in
    elim c.if-has.branch [
      | then-has+in_ok-push w ↦
          let is = sym c.has.ensures ∙ w.if-has.true in
          let at =
          placed memory marks object c.loop-object.next w.chunk-chunk.result
          lt is w.chunk-chunk.ensures.described w.chunk-chunk.ensures.headed c.requires.within so_far.next in
          let pushed =
          AreEntriesOf-push_marked memory marks c.args.objects.start object (c.loop-object.next + 4 * w.from.result)
          c.loop-object.places.items (omega arith) is (omega (arith, at.0)) at.1 so_far.entries in
          record {
            entries = rw (w.places-is, w.in_ok-push.ensures.items) pushed;
            next = omega (arith, at.2);
          }
      | else-has+in_ok-push-2 w ↦
          let is = sym c.has.ensures ∙ w.if-has.false in
          let entries = c.loop-object.places.items in
          let pushed =
          AreEntriesOf-push_unmarked memory marks c.args.objects.start object entries (omega arith) is so_far.entries in
          record {
            entries = rw (w.places-is, w.in_ok-push-2.ensures.items) pushed;
            next = omega (arith, live_words_more_no memory marks object lt is);
          }
    ]
