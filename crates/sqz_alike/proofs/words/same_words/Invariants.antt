use Rattle.std.proofs.Common.{◌≡◌, ◌<◌, ℕ, true}
use Rattle.std.specs.Prelude.{nat_eq, slice_index}
use Rattle.sqz_alike.proofs.words.same_words.Given as goal

abbrev pub invariant-loop-index : goal.invariant-loop-index
invariant-loop-index l = (k : ℕ) → k < l.index → nat_eq (slice_index l.words k) (slice_index l.others k) ≡ true
