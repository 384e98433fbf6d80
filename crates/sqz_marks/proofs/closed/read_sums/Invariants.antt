use Rattle.std.proofs.Common.{◌≡◌, ℕ, ◌+◌, ◌<◌, length, get_or}
use Rattle.std.specs.Slots.{slots_items}
use Rattle.sqz_marks.proofs.closed.read_sums.Given as goal

abbrev pub invariant-loop-region : goal.invariant-loop-region
invariant-loop-region l =
    record {
      sized : length l.sums ≡ length l.fn.sums;
      read : (region : ℕ) → region < l.region → get_or l.sums region 0 ≡ get_or (slots_items l.closed.words) (l.first + region) 0;
    }
