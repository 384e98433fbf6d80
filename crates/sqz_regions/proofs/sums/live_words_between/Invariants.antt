use Rattle.std.proofs.Common.{◌≡◌, ◌+◌}
use Rattle.sqz_trace.specs.Live.{live_words_below}
use Rattle.sqz_regions.proofs.sums.live_words_between.Given as goal

abbrev pub invariant-loop-object : goal.invariant-loop-object
invariant-loop-object l = live_words_below l.heap l.marks l.from + l.words ≡ live_words_below l.heap l.marks l.object
