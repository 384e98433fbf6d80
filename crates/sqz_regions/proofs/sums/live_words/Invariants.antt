use Rattle.std.proofs.Common.{◌≡◌, ℕ, ◌<◌, length, get_or}
use Rattle.sqz_regions.specs.Regions.{live_words_in}
use Rattle.sqz_regions.proofs.sums.live_words.Given as goal

abbrev pub invariant-loop-region : goal.invariant-loop-region
invariant-loop-region l =
    record {
      sized : length l.sums.items ≡ l.region;
      each : (region : ℕ) → region < l.region
          → get_or l.sums.items region 0 ≡ live_words_in l.regions.cut l.regions.memory l.marks region;
    }
