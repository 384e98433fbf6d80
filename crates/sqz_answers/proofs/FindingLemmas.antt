-- Faults are found exactly if there is a first one.
-- Serves `laws::sound_without_first_fault` and `findings::findings_of`.
use Rattle.std.proofs.Common.{◌≡◌, ◌↔◌, Bool, true, false, List, [], ◌∷◌, length, Option, Some, None}
use Rattle.std.proofs.Common.{refl, inl, inr}
use Rattle.std.proofs.lemmas.Bool.{cases_Bool}
use Rattle.sqz_image.specs.declared.fault.Fault.{Fault}
use Rattle.sqz_image.specs.Objects.{Memory, object_count}
use Rattle.sqz_trace.specs.declared.weak.Weak.{Weak}
use Rattle.sqz_trace.specs.Defects.{lacks_nil}
use Rattle.sqz_trace.specs.Faults.{first_fault}
use Rattle.sqz_facts.specs.AllDefects.{first_of}
use Rattle.sqz_facts.proofs.AllDefectLemmas.{first_of-defects}
use Rattle.sqz_answers.specs.Findings.{faults_with, all_faults, faults_found}

faults_with-none : (fault : Option Fault) → (faults_with fault ≡ []) ↔ (fault ≡ None)
faults_with-none None = (λ same. refl, λ same. refl)
faults_with-none (Some fault) = (λ same. absurd cc, λ same. absurd cc)

first_of-none : (faults : List Fault) → (faults ≡ []) ↔ (first_of faults ≡ None)
first_of-none [] = (λ same. refl, λ same. refl)
first_of-none (fault ∷ faults) = (λ same. absurd cc, λ same. absurd cc)

module _ (memory : Memory) (weak : Weak) (marks : List Bool) (sized : length marks ≡ object_count memory) where
  all_faults-none : (all_faults memory weak marks ≡ []) ↔ (first_fault memory weak marks ≡ None)
  all_faults-none =
      elim (cases_Bool (lacks_nil memory weak)) [
        | inl missing ↦ rw missing (λ same. absurd cc, λ same. absurd cc)
        | inr there ↦ rw (there, ← first_of-defects memory weak marks sized) (first_of-none _)
      ]

  pub faults_found-none : (all : Bool) → (faults_found all memory weak marks ≡ []) ↔ (first_fault memory weak marks ≡ None)
  faults_found-none true = all_faults-none
  faults_found-none false = faults_with-none (first_fault memory weak marks)
