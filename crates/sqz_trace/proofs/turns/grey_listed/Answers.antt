use Rattle.std.proofs.Common.{ap, arith}
use Rattle.sqz_trace.specs.declared.shades.Shade.TheVariants.{Grey}
use Rattle.sqz_trace.specs.Greying.{white}
use Rattle.sqz_trace.proofs.TurnLemmas.{white_count-set, IsListed-none, IsListed-one}
use Rattle.sqz_trace.proofs.turns.grey_listed.Goals as goal

pub push_reserved-requires : goal.push_reserved-requires
push_reserved-requires c =
    let one = c.in-Some.ensures.one in
    omega (
      arith,
      c.requires.room,
      c.args.list.now.ok.0,
      white_count-set c.args.shades.now c.in-Some.found Grey one.0,
      ap white one.1,
    )

pub returns-in-Some-clause-listed : goal.returns-in-Some-clause-listed
returns-in-Some-clause-listed c =
    let one = c.in-Some.ensures.one in
    rw (one.2, c.push_reserved.ensures.items)
    (IsListed-one c.args.list.now.items c.args.shades.now c.in-Some.found one.0 one.1)

pub returns-in_default-clause-listed : goal.returns-in_default-clause-listed
returns-in_default-clause-listed c =
    rw c.in_default.ensures.none (IsListed-none c.args.list.now.items c.args.shades.now)
