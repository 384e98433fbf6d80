use Rattle.std.proofs.Common.{◌≡◌, ◌≤◌, ◌*◌, ◌^◌, length, take}
use Rattle.std.specs.Prelude.{sum_by}
use Rattle.std.specs.List.{filter}
use Rattle.sqz_dominators.specs.Children.{retained_bytes}
use Rattle.sqz_answers.specs.TopRows.{is_smaller, retained_objects}
use Rattle.sqz_answers.proofs.rows.sums_of_smaller.Given as goal

abbrev pub invariant-loop-object : goal.invariant-loop-object
invariant-loop-object l =
    let smaller = filter (is_smaller l.tree.dominators.now l.tree.limits) (take l.object-index l.below) in
    record {
      count : l.sums.count ≡ length smaller;
      bytes : l.sums.bytes ≡ sum_by (retained_bytes l.tree.dominators.now) smaller;
      objects : l.sums.objects ≡ sum_by (retained_objects l.tree.dominators.now) smaller;
      few : l.sums.count ≤ l.object-index;
      small : l.sums.bytes ≤ l.object-index * 2 ^ 32;
      small_objects : l.sums.objects ≤ l.object-index * 2 ^ 32;
    }
