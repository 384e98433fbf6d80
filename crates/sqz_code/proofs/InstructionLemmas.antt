-- The first instruction of some bytes, and all of them.
-- Serves `decoding`.
use Rattle.std.proofs.Common.{◌≡◌, ℕ, ◌+◌, ◌-◌, ◌<◌, ◌≤◌, nat_lt, true, false, List, [], ◌∷◌, ◌++◌, length, take, drop, get_or, if◌then◌else◌}
use Rattle.std.proofs.Common.{refl, sym, ap, ◌∙◌, arith}
use Rattle.std.specs.List.{flat_map}
use Rattle.std.proofs.lemmas.Bool.{lt-ltb, le-ltb}
use Rattle.std.proofs.lemmas.Bool.Decides.{nat_tests}
use Rattle.std.proofs.lemmas.List.{get_or-drop, length-drop, drop-drop, take-append-drop}
use Rattle.sqz_code.specs.declared.operation.Operation.TheVariants.{Unknown}
use Rattle.sqz_code.specs.declared.instruction.Instruction.{Instruction}
use Rattle.sqz_code.specs.Operations.{length_by, operation_by}
use Rattle.sqz_code.specs.Instructions.{first_instruction, IsDecodingOf, bytes_in}

-- ---- the first instruction of the bytes from an index on

-- by the number of bytes, and the first three of them
abbrev instruction_by : ℕ → ℕ → ℕ → ℕ → ℕ → Instruction
instruction_by start left code second third =
    if nat_lt left (length_by code) then record { start = start; length = left; operation = Unknown }
    else record { start = start; length = length_by code; operation = operation_by code second third }

module _ (bytes : List ℕ) (start : ℕ) where
  first_instruction-drop : first_instruction (drop start bytes) start
      ≡ instruction_by start (length bytes - start) (get_or bytes start 0) (get_or bytes (start + 1) 0) (get_or bytes (start + 2) 0)
  first_instruction-drop =
      let left = length-drop start bytes in
      let code : get_or (drop start bytes) 0 0 ≡ get_or bytes start 0 =
      get_or-drop start bytes 0 0 ∙ (let none : start + 0 ≡ start = omega arith in rw none refl) in
      ap (λ (n : ℕ). instruction_by start n (get_or (drop start bytes) 0 0) (get_or (drop start bytes) 1 0) (get_or (drop start bytes) 2 0)) left
      ∙ ap (λ (n : ℕ). instruction_by start (length bytes - start) n (get_or (drop start bytes) 1 0) (get_or (drop start bytes) 2 0)) code
      ∙ ap (λ (n : ℕ). instruction_by start (length bytes - start) (get_or bytes start 0) n (get_or (drop start bytes) 2 0)) (get_or-drop start bytes 1 0)
      ∙ ap (instruction_by start (length bytes - start) (get_or bytes start 0) (get_or bytes (start + 1) 0)) (get_or-drop start bytes 2 0)

  -- cut short
  pub first_instruction-cut : length bytes - start < length_by (get_or bytes start 0)
      → first_instruction (drop start bytes) start ≡ record { start = start; length = length bytes - start; operation = Unknown }
  first_instruction-cut lt =
      first_instruction-drop ∙ rw (lt-ltb (length bytes - start) (length_by (get_or bytes start 0)) lt) refl

  pub first_instruction-whole : length_by (get_or bytes start 0) ≤ length bytes - start
      → first_instruction (drop start bytes) start
      ≡ record {
        start = start;
        length = length_by (get_or bytes start 0);
        operation = operation_by (get_or bytes start 0) (get_or bytes (start + 1) 0) (get_or bytes (start + 2) 0);
      }
  first_instruction-whole le =
      first_instruction-drop ∙ rw (le-ltb (length bytes - start) (length_by (get_or bytes start 0)) le) refl

-- the only code of an instruction of three bytes
pub code-three : (code : ℕ) → (length_by code ≡ 1 → ⊥) → (length_by code ≡ 2 → ⊥) → code ≡ 132
code-three code not_one not_two = grind (arith, nat_tests)

-- ---- joined

start-first_instruction : (bytes : List ℕ) (start : ℕ) → (first_instruction bytes start).start ≡ start
start-first_instruction bytes start =
    let code = get_or bytes 0 0 in
    let cut : Instruction = record { start = start; length = length bytes; operation = Unknown } in
    let whole : Instruction =
    record { start = start; length = length_by code; operation = operation_by code (get_or bytes 1 0) (get_or bytes 2 0) } in
    elim (nat_lt (length bytes) (length_by code)) as (λ b. (if b then cut else whole).start ≡ start) [ true ↦ refl | false ↦ refl ]

pub flat_map-decoding : (bytes : List ℕ) (start : ℕ) (instructions : List Instruction) → IsDecodingOf (drop start bytes) start instructions
    → flat_map (bytes_in bytes) instructions ≡ drop start bytes
flat_map-decoding bytes start [] is = sym is
flat_map-decoding bytes start (one ∷ rest) is =
    let here = ap (λ (i : Instruction). i.start) is.1 ∙ start-first_instruction (drop start bytes) start in
    let next : drop one.length (drop start bytes) ≡ drop (start + one.length) bytes = drop-drop one.length start bytes in
    let later = flat_map-decoding bytes (start + one.length) rest (rw next at is.2) in
    ap (λ (ws : List ℕ). ws ++ flat_map (bytes_in bytes) rest) (ap (λ (n : ℕ). take one.length (drop n bytes)) here)
    ∙ ap (λ (ws : List ℕ). take one.length (drop start bytes) ++ ws) (later ∙ sym next)
    ∙ take-append-drop one.length (drop start bytes)
