use Rattle.std.proofs.Common.{[], ◌∷◌, refl}
use Rattle.sqz_trace.specs.declared.weak.Weak.TheVariants.{Keep}
use Rattle.sqz_marks.specs.Core.{Look, Claim, Count, Blacken}
use Rattle.sqz_test_examples.specs.DeadCycle.{dead_cycle_heap, by_pass}
use Rattle.sqz_test_examples.proofs.RunTest.{IsLegalRun-computed}
use Rattle.sqz_test_examples.proofs.marking.one_pass.Goals as goal

pub returns : goal.returns
returns c =
    IsLegalRun-computed dead_cycle_heap Keep 2 5
    (by_pass 0 (Look 5 ∷ Claim 5 0 ∷ Claim 5 0 ∷ Count 0 ∷ Claim 5 1 ∷ Count 1 ∷ Blacken 5 ∷ Look 5 ∷ Look 2 ∷
    Claim 1 3 ∷ Count 3 ∷ Claim 3 1 ∷ Blacken 0 ∷ Blacken 1 ∷ Blacken 3 ∷ []))
    refl
