use Rattle.std.proofs.Common.{◌≡◌, ℕ, ◌+◌, ◌*◌, ◌<◌, length, get_or, take, sum}
use Rattle.sqz_regions.proofs.region_bases.bases.Given as goal

abbrev pub invariant-loop-words : goal.invariant-loop-words
invariant-loop-words l =
    record {
      sized : length l.bases.items ≡ l.words-index;
      each : (part : ℕ) → part < l.words-index → get_or l.bases.items part 0 ≡ l.base + 4 * sum (take part l.sums);
      next : l.address ≡ l.base + 4 * sum (take l.words-index l.sums);
    }
