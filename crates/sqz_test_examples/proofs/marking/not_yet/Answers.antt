use Rattle.std.proofs.Common.{◌<◌, refl, arith}
use Rattle.sqz_trace.specs.declared.weak.Weak.TheVariants.{Keep}
use Rattle.sqz_test_examples.specs.DeadCycle.{dead_cycle}
use Rattle.sqz_test_examples.proofs.TracingTest.{has_edge-true}
use Rattle.sqz_test_examples.proofs.marking.not_yet.Goals as goal

pub returns-clause-targets_unseen : goal.returns-clause-targets_unseen
returns-clause-targets_unseen c = λ meets. let seen : 0 < 0 = meets.2 0 (has_edge-true dead_cycle Keep 5 0 refl) in absurd (omega arith)
