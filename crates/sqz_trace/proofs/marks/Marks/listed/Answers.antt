use Rattle.std.proofs.Common.{sym, arith}
use Rattle.std.proofs.lemmas.List.{take_more, take_all}
use Rattle.sqz_image.specs.Objects.{object_count}
use Rattle.sqz_trace.proofs.AvoidingLemmas.{MarksListed-none, MarksListed-more, MarksListed-past}
use Rattle.sqz_trace.proofs.ShadeLemmas.{length-marks_of}
use Rattle.sqz_trace.proofs.marks.Marks.listed.Goals as goal
use Rattle.sqz_trace.proofs.marks.Marks.listed.Goals.{then-object-len, else-object-len}

pub loop-object-init : goal.loop-object-init
loop-object-init c =
    let blank = c.in_ok-shades.ensures.items_if_clones_equal (λ shade same. same) in
    rw (blank, c.len.ensures.objects) (MarksListed-none (object_count c.args.heap.now))

pub loop-object-preserved : goal.loop-object-preserved
loop-object-preserved c =
    let count = object_count c.args.heap.now in
    let so_far = c.loop-object.invariant in
    let shades = c.loop-object.shades in
    rw (take_more c.args.objects.now c.loop-object.object-index 0 c.loop-object-test.true)
    (elim c.if-object-len.branch [
      | then-object-len w ↦
          rw w.shades-is
          (MarksListed-more count _ shades.items _ so_far (omega (arith, w.if-object-len.true, c.len-in-loop-object.ensures, shades.ok.0)))
      | else-object-len w ↦
          rw w.shades-is
          (MarksListed-past count _ shades.items _ so_far
          (λ lt. absurd (omega (arith, w.if-object-len.false, c.len-in-loop-object.ensures, shades.ok.0))))
    ])

pub new-requires : goal.new-requires
new-requires c =
    omega (arith, c.loop-object.invariant.sized, length-marks_of c.loop-object.shades.items, c.loop-object.shades.ok.0, c.len.ensures.few, c.len.ensures.objects)

pub returns : goal.returns
returns c =
    rw (c.new.ensures, sym (take_all c.loop-object.object-index c.args.objects.now c.loop-object-test.false)) c.loop-object.invariant
