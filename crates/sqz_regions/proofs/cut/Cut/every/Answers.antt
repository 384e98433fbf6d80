use Rattle.std.proofs.Common.{rules}
use Rattle.sqz_regions.proofs.cut.Cut.every.Goals as goal

pub returns-then-words-eq0-clause-exact : goal.returns-then-words-eq0-clause-exact
returns-then-words-eq0-clause-exact c = search rules

pub invariant_of-result : goal.invariant_of-result
invariant_of-result c = search rules

pub returns-clause-exact : goal.returns-clause-exact
returns-clause-exact c = search rules
