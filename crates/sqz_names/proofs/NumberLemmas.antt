-- What the words of a number are cut to, and what is parsed of them.
-- Serves `numbers`.
use Rattle.std.proofs.Common.{◌≡◌, ℕ, ◌≤◌, ◌<◌, ◌^◌, ◌==◌, Bool, false, List, ◌++◌, length, slice_index, drop, cond, codes, sym, ap, subst, ◌∙◌, arith}
use Rattle.std.specs.Prelude.{Option, Some, None, Result, Ok, Err}
use Rattle.std.specs.Result.{OkIff, result_ok}
use Rattle.std.specs.Str.Parse.{IsNumeral, ParsesUnsigned, digits_value, without_leading_plus}
use Rattle.std.proofs.Math.Nat.{pow-le-pow_right}
use Rattle.std.proofs.lemmas.Int.Digits.{digits_value-lt}
use Rattle.std.proofs.lemmas.List.{append_cancel_left}
use Rattle.sqz_names.specs.Numbers.{before_comma, IsAddress, IsNumber, IsSpecialField, Reads}

-- a number that is parsed
pub Reads-number : {E : Type 0} (text : List ℕ) (r : Result ℕ E) → ParsesUnsigned 32 10 text r → Reads (IsNumber text) (result_ok r)
Reads-number text (Ok number) parsed =
    record { numeral = parsed.0.0; is = sym parsed.1; fits = subst (λ (n : ℕ). n < 2 ^ 32) (sym parsed.1) parsed.0.1 }
Reads-number text (Err error) fails =
    λ number is. fails (is.numeral, subst (λ (n : ℕ). n < 2 ^ 32) (sym is.is) is.fits)

-- text that begins with no plus
without_leading_plus-none : (text : List ℕ) → (slice_index text 0 == 43) ≡ false → without_leading_plus text ≡ text
without_leading_plus-none text none = ap (λ (is : Bool). drop (cond is 1 0) text) none

-- the address that digits write, where it is known whether they are few
parsed_address : {E : Type 0} (text : List ℕ) (r : Result ℕ E) → length text ≤ 8
    → OkIff r (IsNumeral 16 text × (digits_value 16 text < 2 ^ 32)) (digits_value 16 text) → Reads (IsAddress text) (result_ok r)
parsed_address text (Ok address) short parsed = record { short = short; numeral = parsed.0.0; is = sym parsed.1 }
parsed_address text (Err error) short fails =
    λ address is.
    let below : digits_value 16 text < 16 ^ length text = digits_value-lt 16 text is.numeral.1 in
    let most : 16 ^ length text ≤ 16 ^ 8 = pow-le-pow_right {n = 16} (omega arith) short in
    fails (is.numeral, omega (arith, below, most))

-- an address that is parsed, where no plus comes first
pub Reads-address : {E : Type 0} (text : List ℕ) (r : Result ℕ E) → length text ≤ 8 → (slice_index text 0 == 43) ≡ false
    → ParsesUnsigned 32 16 text r → Reads (IsAddress text) (result_ok r)
Reads-address {E} text r short none parses =
    parsed_address text r short
    (subst (λ (digits : List ℕ). OkIff r (IsNumeral 16 digits × (digits_value 16 digits < 2 ^ 32)) (digits_value 16 digits))
    (without_leading_plus-none text none) parses)

-- the number up to the first comma after `special object` is that of the field
special_field_read : (words rest : List ℕ) → words ≡ codes "special object " ++ rest → (r : Option ℕ)
    → Reads (IsNumber (before_comma rest)) r → Reads (IsSpecialField words) r
special_field_read words rest split None none =
    λ field is. none field (subst (λ (text : List ℕ). IsNumber (before_comma text) field)
    (append_cancel_left (codes "special object ") is.rest rest (sym is.split ∙ split)) is.is)
special_field_read words rest split (Some field) is = record { rest = rest; split = split; is = is }

-- the field of the special objects array that is parsed
pub Reads-special_field : {E : Type 0} (words rest : List ℕ) → words ≡ codes "special object " ++ rest
    → (r : Result ℕ E) → ParsesUnsigned 32 10 (before_comma rest) r → Reads (IsSpecialField words) (result_ok r)
Reads-special_field words rest split r parses = special_field_read words rest split (result_ok r) (Reads-number (before_comma rest) r parses)
