use Rattle.std.proofs.Common.{◌≡◌, ◌<◌, ◌≤◌, ◌-◌, ◌+◌, length, get_or, sym, refl, arith, rules}
use Rattle.sqz_code.specs.Operations.{length_by}
use Rattle.sqz_code.proofs.InstructionLemmas.{first_instruction-cut, first_instruction-whole, code-three}
use Rattle.sqz_code.proofs.decoding.instruction_at.Goals as goal

pub returns-then-left-length-clause-instruction : goal.returns-then-left-length-clause-instruction
returns-then-left-length-clause-instruction c =
    let lt : length c.args.bytecodes.now - c.args.start < length_by (get_or c.args.bytecodes.now c.args.start 0) =
    omega (arith, c.length_of-length.ensures.length) in
    sym (first_instruction-cut c.args.bytecodes.now c.args.start lt)

pub returns-in-1-clause-instruction : goal.returns-in-1-clause-instruction
returns-in-1-clause-instruction c =
    let le : length_by (get_or c.args.bytecodes.now c.args.start 0) ≤ length c.args.bytecodes.now - c.args.start =
    omega (arith, c.length_of-length.ensures.length) in
    rw (
      first_instruction-whole c.args.bytecodes.now c.args.start le,
      c.length_of-length.ensures.length,
      c.one_byte-operation.ensures (get_or c.args.bytecodes.now (c.args.start + 1) 0) (get_or c.args.bytecodes.now (c.args.start + 2) 0),
    ) refl

pub returns-in-2-clause-instruction : goal.returns-in-2-clause-instruction
returns-in-2-clause-instruction c =
    let le : length_by (get_or c.args.bytecodes.now c.args.start 0) ≤ length c.args.bytecodes.now - c.args.start =
    omega (arith, c.length_of-length.ensures.length) in
    rw (
      first_instruction-whole c.args.bytecodes.now c.args.start le,
      c.length_of-length.ensures.length,
      c.two_bytes-operation.ensures (get_or c.args.bytecodes.now (c.args.start + 2) 0),
    ) refl

pub returns-in_default-clause-instruction : goal.returns-in_default-clause-instruction
returns-in_default-clause-instruction c =
    let le : length_by (get_or c.args.bytecodes.now c.args.start 0) ≤ length c.args.bytecodes.now - c.args.start =
    omega (arith, c.length_of-length.ensures.length) in
    let not_one : length_by (get_or c.args.bytecodes.now c.args.start 0) ≡ 1 → ⊥ = λ is. search rules in
    let not_two : length_by (get_or c.args.bytecodes.now c.args.start 0) ≡ 2 → ⊥ = λ is. search rules in
    let code = code-three (get_or c.args.bytecodes.now c.args.start 0) not_one not_two in
    rw (
      first_instruction-whole c.args.bytecodes.now c.args.start le,
      c.length_of-length.ensures.length,
      c.three_bytes-operation.ensures,
      code,
    ) refl
