use Rattle.std.proofs.Common.{ℕ, ◌<◌, ◌^◌, slice_index}
use Rattle.sqz_alike.proofs.laws.word_bounds.Given as goal

abbrev pub invariant-loop-k : goal.invariant-loop-k
invariant-loop-k l = (j : ℕ) → j < l.k → slice_index l.words j < 2 ^ 32
