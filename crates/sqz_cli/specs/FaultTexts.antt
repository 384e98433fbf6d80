-- Small numbers as they are printed.
use Rattle.std.specs.Prelude.{ℕ, ◌+◌, ◌/◌, ◌%◌, nat_lt, if◌then◌else◌, List, [], ◌∷◌}

-- a number below a hundred, without a leading zero
abbrev pub two_digits : ℕ → List ℕ
two_digits number =
    if nat_lt number 10 then (48 + number % 10) ∷ [] else (48 + number / 10) ∷ (48 + number % 10) ∷ []
