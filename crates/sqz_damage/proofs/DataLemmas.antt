-- The data words that a file has.
-- Serves `DataRange::of`, `damage_of` and `recover`.
use Rattle.std.proofs.Common.{◌≡◌, ◌∙◌, ℕ, suc, ◌+◌, ◌*◌, ◌/◌, ◌%◌, ◌^◌, ◌≤◌, Bool, true, false, not, ◌||◌, cond, eqb, ltb}
use Rattle.std.proofs.Common.{◌<◌, List, [], ◌∷◌, length, take, Option, Some, None, refl, sym, ap, arith, inl, inr}
use Rattle.std.proofs.lemmas.Bool.{cases_eq, cases_lt, eqb-true, ltb-false, le-ltb}
use Rattle.std.proofs.lemmas.Option.{none-some}
use Rattle.sqz_object.specs.declared.order.Order.{Order}
use Rattle.sqz_object.specs.Bytes.{number_of, words_of}
use Rattle.sqz_image.specs.declared.fault.Fault.{Fault}
use Rattle.sqz_image.specs.declared.fault.Fault.TheVariants.{TooShort, BadHeaderSize, BadDataSize, BadBase, Truncated}
use Rattle.sqz_image.specs.declared.header.Header.{Header}
use Rattle.sqz_image.specs.File.{IsHeader, header_size, stated_header_size, data_size, base_address, image_bytes, order_of}
use Rattle.sqz_image.specs.Refusals.{words_fault, header_fault, fault_in_order, file_fault}
use Rattle.sqz_damage.specs.Losses.{IsLoss}
use Rattle.sqz_damage.specs.Damaged.{IsPlaceOfLoss, MayMissInside, words_there}

-- bytes after the last whole word spell nothing
pub words_of-whole : (order : Order) (bytes : List ℕ) (k : ℕ) → k ≡ length bytes / 4
    → words_of order (take (4 * k) bytes) ≡ words_of order bytes
words_of-whole order [] k is = let none : 4 * k ≡ 0 = omega (arith, is) in rw none refl
words_of-whole order (a ∷ []) k is = let none : 4 * k ≡ 0 = omega (arith, is) in rw none refl
words_of-whole order (a ∷ b ∷ []) k is = let none : 4 * k ≡ 0 = omega (arith, is) in rw none refl
words_of-whole order (a ∷ b ∷ c ∷ []) k is = let none : 4 * k ≡ 0 = omega (arith, is) in rw none refl
words_of-whole order (a ∷ b ∷ c ∷ d ∷ rest) k is =
    let four : 4 * k ≡ suc (suc (suc (suc (4 * (length rest / 4))))) = omega (arith, is) in
    rw four
    (ap (λ (words : List ℕ). number_of order (a ∷ b ∷ c ∷ d ∷ []) ∷ words) (words_of-whole order rest (length rest / 4) refl))

-- bytes are missing before a word that is there
pub IsPlaceOfLoss-within : (file : List ℕ) (header : Header) (missing word : ℕ)
    → IsPlaceOfLoss file header missing (Some word)
    → (IsLoss (base_address header.words) (words_there file header) (missing / 4) (Some word) → word < length (words_there file header))
    → word < length (words_there file header)
IsPlaceOfLoss-within file header missing word is within =
    let at_end : (MayMissInside file header missing → ⊥) → word < length (words_there file header) =
    λ no. absurd (none-some word (sym (is.at_end no))) in
    elim (cases_lt 0 missing) [
      | inr none ↦ at_end (λ may. let some = may.some in omega arith)
      | inl some ↦ elim (cases_eq (missing % 4) 0) [
        | inr rest ↦ at_end (λ may. rest may.whole)
        | inl whole ↦ elim (cases_lt (4 * length (words_there file header)) missing) [
          | inl many ↦ at_end (λ may. let few = may.few in omega arith)
          | inr few ↦ within (is.inside (record { some = some; whole = whole; few = few }))
        ]
      ]
    ]

-- what header words without a fault say
pub record AreSound (header : List ℕ) : Type 0 where
  pub multiple : data_size header % 4 ≡ 0
  pub aligned : base_address header % 4 ≡ 0
  pub within : base_address header + data_size header ≤ 2 ^ 32

no_fault_parts : (size multiple base : Bool)
    → cond (not size) (Some BadHeaderSize) (cond (not multiple) (Some BadDataSize) (cond base (Some BadBase) None)) ≡ None
    → (multiple ≡ true) × (base ≡ false)
no_fault_parts false multiple base e = absurd (none-some BadHeaderSize (sym e))
no_fault_parts true false base e = absurd (none-some BadDataSize (sym e))
no_fault_parts true true true e = absurd (none-some BadBase (sym e))
no_fault_parts true true false e = (refl, refl)

base_parts : (aligned over : Bool) → (not aligned || over) ≡ false → (aligned ≡ true) × (over ≡ false)
base_parts true false e = (refl, refl)
base_parts true true e = absurd cc
base_parts false over e = absurd cc

pub AreSound-none : (header : List ℕ) → words_fault header ≡ None → AreSound header
AreSound-none header e =
    let parts =
    no_fault_parts (eqb (stated_header_size header) header_size) (eqb (data_size header % 4) 0)
    (not (eqb (base_address header % 4) 0) || ltb (2 ^ 32) (base_address header + data_size header)) e in
    let base = base_parts (eqb (base_address header % 4) 0) (ltb (2 ^ 32) (base_address header + data_size header)) parts.1 in
    record { multiple = eqb-true _ _ parts.0; aligned = eqb-true _ _ base.0; within = ltb-false _ _ base.1 }

-- ---- a fault of the header words is that of the file

fault_by : (size multiple base room : Bool) (fault : Fault)
    → cond (not size) (Some BadHeaderSize) (cond (not multiple) (Some BadDataSize) (cond base (Some BadBase) None)) ≡ Some fault
    → cond (not size) (Some BadHeaderSize)
    (cond (not multiple) (Some BadDataSize) (cond base (Some BadBase) (cond room (Some Truncated) None))) ≡ Some fault
fault_by false multiple base room fault e = e
fault_by true false base room fault e = e
fault_by true true true room fault e = e
fault_by true true false room fault e = absurd (none-some fault e)

header_fault-words : (header : List ℕ) (bytes : ℕ) (fault : Fault) → words_fault header ≡ Some fault → header_fault header bytes ≡ Some fault
header_fault-words header bytes fault e =
    fault_by (eqb (stated_header_size header) header_size) (eqb (data_size header % 4) 0)
    (not (eqb (base_address header % 4) 0) || ltb (2 ^ 32) (base_address header + data_size header))
    (ltb bytes (header_size + data_size header)) fault e

pub file_fault-words : (file : List ℕ) (header : Header) (fault : Fault) → IsHeader file header → words_fault header.words ≡ Some fault
    → file_fault file ≡ Some fault
file_fault-words file header fault is e =
    let bytes = image_bytes file in
    ap (λ (short : Bool). cond short (Some TooShort) (fault_in_order (order_of bytes) bytes)) (le-ltb _ _ is.long)
    ∙ ap (λ (found : Option Order). fault_in_order found bytes) is.order
    ∙ ap (λ (h : List ℕ). header_fault h (length bytes)) (sym is.words)
    ∙ header_fault-words header.words (length bytes) fault e
