-- Counts of calls.
-- Serves `ReadingLoop` and `WritingLoop`.
use Rattle.std.proofs.Common.{◌≡◌, ℕ, ◌+◌, ◌<◌, arith}
use Rattle.std.proofs.lemmas.Bool.Decides.{nat_tests}
use Rattle.sqz_image.specs.Devices.{one_more, turn_limit, count_after}

pub one_more-count_after : (count turns : ℕ) → one_more (count_after count turns) ≡ count_after count (turns + 1)
one_more-count_after count turns = grind (arith, nat_tests)

pub count_after-count_after : (count before after : ℕ) → count_after (count_after count before) after ≡ count_after count (before + after)
count_after-count_after count before after = grind (arith, nat_tests)

-- fewer calls than the limit allows
pub count_after-lt : (count turns : ℕ) → turns < turn_limit → count_after count turns < count + turn_limit
count_after-lt count turns lt = grind (arith, nat_tests)
