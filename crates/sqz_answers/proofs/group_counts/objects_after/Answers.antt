use Rattle.std.proofs.Common.{arith}
use Rattle.std.proofs.lemmas.List.Sums.{sum_by-drop_more, sum_by-take-drop}
use Rattle.sqz_histogram.specs.declared.group.Group.TheVariants.{Class}
use Rattle.sqz_answers.specs.declared.group_counts.GroupCount.{GroupCount}
use Rattle.sqz_answers.proofs.group_counts.objects_after.Goals as goal

pub overflow_add-objects : goal.overflow_add-objects
overflow_add-objects c =
    let counts = c.args.counts.now in
    let none : GroupCount = record { group = Class 0; objects = 0 } in
    let more = sum_by-drop_more (λ (count : GroupCount). count.objects) counts c.loop-index.index none c.loop-index-test.true in
    let all = sum_by-take-drop (λ (count : GroupCount). count.objects) counts c.args.named in
    omega (arith, c.from-objects.ensures, more, all, c.loop-index.invariant, c.requires)
