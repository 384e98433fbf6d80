-- Whether a slot is the first one that points to an object, by a test that computes.
-- Serves the functions of `questions`.
use Rattle.std.proofs.Common.{◌≡◌, ℕ, Bool, true, not, eqb, List, ◌∷◌, ◌++◌, Option, Some, refl, subst}
use Rattle.std.specs.List.{list_all}
use Rattle.std.proofs.lemmas.Bool.{eqb-false, not-true}
use Rattle.std.proofs.lemmas.List.Elements.{All-contains}
use Rattle.std.proofs.lemmas.List.Sums.{AllPass-from_list_all}
use Rattle.sqz_image.specs.declared.slot.Slot.{Slot}
use Rattle.sqz_trace.specs.Edges.{OutEdges, strong_slots, edge_target}
use Rattle.sqz_dominators.specs.Paths.{IsFirstSlotTo}
use Rattle.sqz_test_examples.proofs.TracingTest.{is_index}

module _ (edges : OutEdges) (object : ℕ) where
  -- whether a slot does not point to the object
  abbrev pub is_other : Slot → Bool
  is_other slot = not (is_index (edge_target edges slot) object)

  pub IsFirstSlotTo-computed : (slot : Slot) (before after : List Slot) → edge_target edges slot ≡ Some object
      → strong_slots edges ≡ before ++ slot ∷ after → list_all is_other before ≡ true → IsFirstSlotTo edges object slot
  IsFirstSlotTo-computed slot before after names slots others =
      record {
        names = names;
        before = before;
        after = after;
        slots = slots;
        none = λ target.
            let other = All-contains (λ s. is_other s ≡ true) before target.slot (AllPass-from_list_all is_other before others) target.listed in
            let same = subst (λ (found : Option ℕ). not (is_index found object) ≡ true) target.names other in
            eqb-false object object (not-true (eqb object object) same) refl;
      }
