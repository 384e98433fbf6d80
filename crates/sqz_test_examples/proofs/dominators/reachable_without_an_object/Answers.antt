use Rattle.std.proofs.Common.{◌≡◌, ℕ, zero, suc, false, [], ◌∷◌, true≢false, refl, sym, ◌∙◌}
use Rattle.sqz_trace.specs.Graph.{is_marked}
use Rattle.sqz_test_examples.proofs.WithoutTest.{without_one}
use Rattle.sqz_test_examples.proofs.dominators.reachable_without_an_object.Goals as goal

pub returns-clause-one : goal.returns-clause-one
returns-clause-one c = without_one

-- no object is marked
none_marked : (index : ℕ) → is_marked (false ∷ false ∷ false ∷ false ∷ false ∷ false ∷ []) index ≡ false
none_marked zero = refl
none_marked (suc zero) = refl
none_marked (suc (suc zero)) = refl
none_marked (suc (suc (suc zero))) = refl
none_marked (suc (suc (suc (suc zero)))) = refl
none_marked (suc (suc (suc (suc (suc zero))))) = refl
none_marked (suc (suc (suc (suc (suc (suc index)))))) = refl

pub returns-clause-start : goal.returns-clause-start
returns-clause-start c =
    record {
      start = 5;
      is_special = refl;
      reached = record {
        sized = refl;
        sound = λ index m. absurd (true≢false (sym m ∙ none_marked index));
        complete = λ index without. absurd (true≢false without.start_avoids);
      };
    }
