-- The numbers of faults that are tested in order.
-- Serves `ReadingLemmas`; `DefectLemmas` of `sqz_trace`.
use Rattle.std.proofs.Common.{◌≡◌, ℕ, Bool, true, false, cond, Option, Some, None, subst}
use Rattle.std.proofs.lemmas.Option.{none-some, same_Some}
use Rattle.sqz_image.specs.declared.fault.Fault.{Fault}
use Rattle.sqz_image.specs.Numbers.{number_of_fault}

module _ (IsOne : ℕ → Type 0) where
  -- if a fault was found, its number is one of these
  abbrev pub HasNumber : Option Fault → Type 0
  HasNumber found = (fault : Fault) → found ≡ Some fault → IsOne (number_of_fault fault)

  pub HasNumber-none : HasNumber None
  HasNumber-none fault e = absurd (none-some fault e)

  pub HasNumber-some : (one : Fault) → IsOne (number_of_fault one) → HasNumber (Some one)
  HasNumber-some one is fault e = subst (λ (f : Fault). IsOne (number_of_fault f)) (same_Some one fault e) is

  pub HasNumber-if : (test : Bool) (one : Fault) (rest : Option Fault)
      → IsOne (number_of_fault one) → HasNumber rest → HasNumber (cond test (Some one) rest)
  HasNumber-if true one rest is others = HasNumber-some one is
  HasNumber-if false one rest is others = others
