-- The order of changes by how much they differ.
use Rattle.std.specs.Prelude.{ℕ, Bool, Option, Some, None}
use Rattle.std.specs.Int.{abs_diff}
use Rattle.std.specs.Ordering.{nat_cmp, is_lt}
use Rattle.sqz_answers.specs.declared.changes.Change.{Change}

-- the bytes of a value, and 0 if there is none
abbrev pub bytes_or_none : {V : Type 0} → (V → ℕ) → Option V → ℕ
bytes_or_none bytes None = 0
bytes_or_none bytes (Some value) = bytes value

-- by how many bytes the values of a change differ
abbrev pub difference : {V : Type 0} → (V → ℕ) → Change V → ℕ
difference bytes change = abs_diff (bytes_or_none bytes change.old) (bytes_or_none bytes change.new)

-- whether the values of a change differ by more bytes than those of another
abbrev pub differs_more : {V : Type 0} → (V → ℕ) → Change V → Change V → Bool
differs_more bytes one other = is_lt (nat_cmp (difference bytes other) (difference bytes one))
