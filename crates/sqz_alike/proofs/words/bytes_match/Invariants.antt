use Rattle.std.proofs.Common.{◌≡◌, ◌<◌, ℕ, true}
use Rattle.std.specs.Prelude.{slice_index}
use Rattle.sqz_alike.specs.Untraced.{same_word}
use Rattle.sqz_alike.proofs.words.bytes_match.Given as goal

abbrev pub invariant-loop-index : goal.invariant-loop-index
invariant-loop-index l =
    (k : ℕ) → k < l.index → same_word l.order l.other_order (slice_index l.words k) (slice_index l.others k) ≡ true
