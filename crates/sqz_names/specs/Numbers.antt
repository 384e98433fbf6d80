-- The numbers that words state. Words are lists of bytes.
use Rattle.std.specs.Prelude.{◌≡◌, ◌⊎◌, ◌≤◌, ◌<◌, ◌^◌, ◌==◌, ℕ, List, ◌++◌, length, take, drop, codes, cond, Option, Some, None}
use Rattle.std.specs.List.{before_first}
use Rattle.std.specs.Str.{bytes_eq}
use Rattle.std.specs.Str.Parse.{IsNumeral, digits_value, without_leading_plus}

-- one to eight hexadecimal digits, and the address that they write
pub record IsAddress (digits : List ℕ) (address : ℕ) : Type 0 where
  pub short : length digits ≤ 8
  pub numeral : IsNumeral 16 digits
  pub is : digits_value 16 digits ≡ address

-- `0x` or `0X`, and then an address
pub record IsExplicitAddress (word : List ℕ) (address : ℕ) : Type 0 where
  pub digits : List ℕ
  pub starts : (word ≡ codes "0x" ++ digits) ⊎ (word ≡ codes "0X" ++ digits)
  pub is : IsAddress digits address

-- decimal digits, a plus may precede them, and the number below 2^32 that they write
pub record IsNumber (text : List ℕ) (number : ℕ) : Type 0 where
  pub numeral : IsNumeral 10 (without_leading_plus text)
  pub is : digits_value 10 (without_leading_plus text) ≡ number
  pub fits : number < 2 ^ 32

-- `compact` and a number
pub record IsCompact (words : List ℕ) (index : ℕ) : Type 0 where
  pub number : List ℕ
  pub split : words ≡ codes "compact " ++ number
  pub is : IsNumber number index

-- text up to its first comma, or all of it
abbrev pub before_comma : List ℕ → List ℕ
before_comma text = before_first (λ byte. byte == 44) text

-- `special object` and a number, where a comma and any text may follow
pub record IsSpecialField (words : List ℕ) (field : ℕ) : Type 0 where
  pub rest : List ℕ
  pub split : words ≡ codes "special object " ++ rest
  pub is : IsNumber (before_comma rest) field

-- the name of a class, with or without `class` before it
abbrev pub class_text : List ℕ → List ℕ
class_text words = cond (bytes_eq (take 6 words) (codes "class ")) (drop 6 words) words

-- the number that words state in a form, and none if they are not of this form
abbrev pub Reads : (ℕ → Type 0) → Option ℕ → Type 0
Reads States None = (number : ℕ) → States number → ⊥
Reads States (Some number) = States number
