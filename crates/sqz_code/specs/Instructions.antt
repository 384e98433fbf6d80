-- The instructions of bytecodes.
use Rattle.std.specs.Prelude.{◌≡◌, ◌<◌, ℕ, ◌+◌, nat_lt, if◌then◌else◌, List, [], ◌∷◌, length, take, drop, slice_index}
use Rattle.sqz_code.specs.declared.operation.Operation.TheVariants.{Unknown}
use Rattle.sqz_code.specs.declared.instruction.Instruction.{Instruction}
use Rattle.sqz_code.specs.Operations.{length_by, operation_by}

-- the instruction that these bytes begin with. `start` is the index of the first of them. An
-- instruction that is cut short takes the bytes that are left, and is unknown
abbrev pub first_instruction : List ℕ → ℕ → Instruction
first_instruction bytes start =
    let code = slice_index bytes 0 in
    if nat_lt (length bytes) (length_by code) then
    record { start = start; length = length bytes; operation = Unknown }
    else
    record {
      start = start;
      length = length_by code;
      operation = operation_by code (slice_index bytes 1) (slice_index bytes 2);
    }

-- the bytes are these instructions, one after the other, up to the end. `start` is the index of
-- the first byte
abbrev pub IsDecodingOf : List ℕ → ℕ → List Instruction → Type 0
IsDecodingOf bytes start [] = bytes ≡ []
IsDecodingOf bytes start (instruction ∷ rest) =
    (0 < length bytes) × (instruction ≡ first_instruction bytes start)
    × IsDecodingOf (drop instruction.length bytes) (start + instruction.length) rest

-- the bytes of an instruction among those of its method
abbrev pub bytes_in : List ℕ → Instruction → List ℕ
bytes_in bytes instruction = take instruction.length (drop instruction.start bytes)
