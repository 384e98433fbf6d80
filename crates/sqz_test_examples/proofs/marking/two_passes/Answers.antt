use Rattle.std.proofs.Common.{[], ◌∷◌, refl}
use Rattle.sqz_trace.specs.declared.weak.Weak.TheVariants.{Keep}
use Rattle.sqz_marks.specs.Core.{Look, Claim, Count, Split, Join}
use Rattle.sqz_test_examples.specs.DeadCycle.{dead_cycle_heap}
use Rattle.sqz_test_examples.proofs.RunTest.{IsLegalRun-computed}
use Rattle.sqz_test_examples.proofs.marking.two_passes.Goals as goal

pub returns : goal.returns
returns c =
    IsLegalRun-computed dead_cycle_heap Keep 2 5
    ((0, Split 1) ∷ (1, Look 5) ∷ (1, Claim 5 1) ∷ (1, Count 1) ∷ (0, Claim 5 1) ∷ (0, Join 1) ∷ [])
    refl
