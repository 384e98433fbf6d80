-- What the placeholders of a format string write.
-- Serves `printing::columns` and `printing::place_text`.
use Rattle.std.proofs.Common.{◌≡◌, ℕ, zero, suc, ◌-◌, ◌^◌, false, List, [], ◌∷◌, ◌++◌, length, replicate, refl, ap}
use Rattle.std.proofs.Common.{arith, append-nil, append_assoc, codes}
use Rattle.std.specs.Fmt.{padded_integral, format_spec, char_count, decimal}
use Rattle.std.specs.List.{repeat}
use Rattle.std.specs.Char.{encode_utf8}
use Rattle.sqz_census.specs.Text.{right_aligned, columns}

-- a space is one byte
repeat_spaces : (n : ℕ) → repeat n (encode_utf8 32) ≡ replicate n 32
unfolding encode_utf8
repeat_spaces zero = refl
repeat_spaces (suc n) = ap (λ (text : List ℕ). 32 ∷ text) (repeat_spaces n)

-- `{:>N}` writes spaces before the number
pub padded_integral-right : (places number : ℕ)
    → padded_integral (format_spec 32 3 0 places (2 ^ 64 - 1)) false [] (decimal number) ≡ right_aligned places number
unfolding padded_integral char_count
padded_integral-right places number =
    let padding = places - length (decimal number) in
    let short : padding - 0 - 0 ≡ padding = omega arith in
    let none : padding - padding ≡ 0 = omega arith in
    rw (short, none, repeat_spaces padding) (simp append-nil)

-- two such holes with a space behind each write two columns
pub columns-grouped : (count bytes : ℕ)
    → padded_integral (format_spec 32 3 0 10 (2 ^ 64 - 1)) false [] (decimal count)
    ++ (codes " " ++ (padded_integral (format_spec 32 3 0 12 (2 ^ 64 - 1)) false [] (decimal bytes) ++ codes " "))
    ≡ columns count bytes
columns-grouped count bytes = rw (padded_integral-right 10 count, padded_integral-right 12 bytes) (simp append_assoc)

-- `{:0Nx}` writes zeros before the digits
pub padded_integral-zeros : (places : ℕ) (digits : List ℕ)
    → padded_integral (format_spec 32 0 4 places (2 ^ 64 - 1)) false [] digits ≡ replicate (places - length digits) 48 ++ digits
unfolding padded_integral char_count
padded_integral-zeros places digits =
    let short : places - length digits - 0 - 0 ≡ places - length digits = omega arith in
    rw short (simp append-nil)
