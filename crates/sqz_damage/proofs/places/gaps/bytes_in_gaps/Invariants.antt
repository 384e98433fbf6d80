use Rattle.std.proofs.Common.{◌≡◌, ◌*◌, ◌<◌, ◌^◌}
use Rattle.std.specs.Prelude.{sum_by, take}
use Rattle.sqz_damage.proofs.places.gaps.bytes_in_gaps.Given as goal

abbrev pub invariant-loop-gap : goal.invariant-loop-gap
invariant-loop-gap l =
    let bytes = sum_by (λ gap. 4 * gap.words) (take l.gap-index l.gaps) in bytes < 2 ^ 64 → l.bytes ≡ bytes
