use Rattle.std.proofs.Common.{arith, rules}
use Rattle.sqz_regions.specs.Cuts.{IsCutList}
use Rattle.sqz_regions.proofs.CutLemmas.{few_points}
use Rattle.sqz_regions.proofs.cut.Cut.count.Goals as goal

pub overflow_cast-result : goal.overflow_cast-result
overflow_cast-result c =
    let list : IsCutList c.in-At.points.items = rw c.in-At.is at c.self.invariant in
    omega (arith, few_points _ list)

pub overflow_add-result-in-At : goal.overflow_add-result-in-At
overflow_add-result-in-At c =
    let list : IsCutList c.in-At.points.items = rw c.in-At.is at c.self.invariant in
    omega (arith, few_points _ list)

pub returns-in-At-clause-few : goal.returns-in-At-clause-few
returns-in-At-clause-few c =
    let list : IsCutList c.in-At.points.items = rw c.in-At.is at c.self.invariant in
    omega (arith, few_points _ list)

pub returns-in-Every-clause-count : goal.returns-in-Every-clause-count
returns-in-Every-clause-count c = search rules
