use Rattle.sqz_trace.proofs.GreyingLemmas.{IsLowest-none, IsLowest-one}
use Rattle.sqz_trace.proofs.finishing.grey_target.Goals as goal

pub returns-in-Some-clause-lowest : goal.returns-in-Some-clause-lowest
returns-in-Some-clause-lowest c =
    let one = c.in-Some.ensures.one in
    rw (one.2, c.min.ensures) (IsLowest-one c.args.shades.now c.in-Some.found c.args.lowest one.0 one.1)

pub returns-in-None-clause-lowest : goal.returns-in-None-clause-lowest
returns-in-None-clause-lowest c =
    rw c.in-None.ensures.none (IsLowest-none c.args.shades.now c.args.lowest)
