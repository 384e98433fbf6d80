use Rattle.std.proofs.Common.{◌-◌, ◌≤◌, List, ◌++◌, length, drop}
use Rattle.sqz_code.specs.declared.instruction.Instruction.{Instruction}
use Rattle.sqz_code.specs.Instructions.{IsDecodingOf}
use Rattle.sqz_code.proofs.decoding.instructions_of.Given as goal

-- before the instructions of the bytes that are left stand those found so far
abbrev pub invariant-loop-start : goal.invariant-loop-start
invariant-loop-start l =
    (l.start ≤ length l.bytecodes)
    × ((rest : List Instruction) → IsDecodingOf (drop l.start l.bytecodes) l.start rest
    → IsDecodingOf l.bytecodes 0 (l.instructions.items ++ rest))

abbrev pub decreases-loop-start : goal.decreases-loop-start
decreases-loop-start l = length l.bytecodes - l.start
