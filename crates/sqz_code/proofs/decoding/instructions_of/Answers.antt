use Rattle.std.proofs.Common.{◌≡◌, drop, [], arith}
use Rattle.std.proofs.lemmas.List.{append-nil}
use Rattle.std.proofs.Math.ListN.{drop_of_length-le}
use Rattle.sqz_code.proofs.InstructionLemmas.{flat_map-decoding}
use Rattle.sqz_code.proofs.decoding.instructions_of.Goals as goal

pub returns-clause-instructions : goal.returns-clause-instructions
returns-clause-instructions c =
    let none : drop c.loop-start.start c.args.bytecodes.now ≡ [] =
    drop_of_length-le c.args.bytecodes.now (omega arith) in
    rw (append-nil c.loop-start.instructions.items) at (c.loop-start.invariant.1 [] none)

pub returns-clause-joined : goal.returns-clause-joined
returns-clause-joined c =
    flat_map-decoding c.args.bytecodes.now 0 c.loop-start.instructions.items (returns-clause-instructions c)
