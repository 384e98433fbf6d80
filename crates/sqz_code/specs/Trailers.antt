-- The trailer of a compiled method, as Squeak finds it.
use Rattle.std.specs.Prelude.{ℕ, ◌+◌, ◌==◌, nat_le, not, if◌then◌else◌, List, [], ◌∷◌, length, take, unwrap_or}
use Rattle.std.specs.List.{position}

-- the number of zeros before the first of four bytes that is not 0; 0 if all four are zeros
abbrev pub zeros_before : List ℕ → ℕ
zeros_before bytes =
    unwrap_or (position (λ byte. not (byte == 0)) (take 4 bytes)) (if nat_le 4 (length bytes) then 0 else length bytes)

-- the number of bytes of the trailer, by the bytes after the literals from the last one back
abbrev pub trailer_length : List ℕ → ℕ
trailer_length [] = 0
trailer_length (flag ∷ before) =
    if nat_le 252 flag then 4
    else (if flag == 0 then 1 + zeros_before before
    else 1 + flag)
