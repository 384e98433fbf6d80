use Rattle.std.proofs.Common.{take}
use Rattle.sqz_image.specs.Objects.{object_count}
use Rattle.sqz_trace.specs.Avoiding.{MarksListed}
use Rattle.sqz_trace.specs.Shades.{marks_of}
use Rattle.sqz_trace.proofs.marks.Marks.listed.Given as goal

abbrev pub invariant-loop-object : goal.invariant-loop-object
invariant-loop-object l = MarksListed (object_count l.heap) (take l.object-index l.objects) (marks_of l.shades.items)
