use Rattle.std.proofs.Common.{◌≡◌, ℕ, zero, suc, ◌<◌, List, [], ◌∷◌, Option, Some, None, refl, subst, arith, inl, inr}
use Rattle.std.specs.Prelude.{slice_index_or, Contains}
use Rattle.std.proofs.lemmas.Option.{same_Some}
use Rattle.sqz_dominators.specs.declared.children.Child.{Child}
use Rattle.sqz_dominators.specs.Children.{ComesFirst, no_child}
use Rattle.sqz_dominators.specs.Retained.{DominatorTree}
use Rattle.sqz_test_examples.proofs.dominators.children_in_a_chain.Goals as goal

abbrev immediate : List (Option ℕ)
immediate = Some 4 ∷ Some 4 ∷ Some 1 ∷ Some 2 ∷ None ∷ []

abbrev tree : DominatorTree
tree =
    record {
      immediate = immediate;
      retained =
          record { objects = 1; bytes = 4 } ∷ record { objects = 3; bytes = 24 } ∷ record { objects = 2; bytes = 16 }
          ∷ record { objects = 1; bytes = 8 } ∷ record { objects = 5; bytes = 40 } ∷ [];
    }

abbrev children : List Child
children =
    record { parent = 1; object = 2 } ∷ record { parent = 2; object = 3 } ∷ record { parent = 4; object = 1 }
    ∷ record { parent = 4; object = 0 } ∷ []

each : (i : ℕ) → i < 4
    → slice_index_or immediate (slice_index_or children i no_child).object None ≡ Some (slice_index_or children i no_child).parent
each zero lt = refl
each (suc zero) lt = refl
each (suc (suc zero)) lt = refl
each (suc (suc (suc zero))) lt = refl
each (suc (suc (suc (suc i)))) lt = absurd (omega arith)

-- a child with this parent is in the list
listed : (k object right parent : ℕ) → Some right ≡ Some parent → Contains children (record { parent = right; object = object })
    → Contains children (record { parent = parent; object = object })
listed k object right parent is there =
    subst (λ (p : ℕ). Contains children (record { parent = p; object = object })) (same_Some right parent is) there

all : (object parent : ℕ) → slice_index_or immediate object None ≡ Some parent
    → Contains children (record { parent = parent; object = object })
all zero parent is = listed 3 0 4 parent is (3, omega arith, refl)
all (suc zero) parent is = listed 2 1 4 parent is (2, omega arith, refl)
all (suc (suc zero)) parent is = listed 0 2 1 parent is (0, omega arith, refl)
all (suc (suc (suc zero))) parent is = listed 1 3 2 parent is (1, omega arith, refl)
all (suc (suc (suc (suc zero)))) parent is = let none : None ≡ Some parent = is in absurd cc
all (suc (suc (suc (suc (suc object))))) parent is = let none : None ≡ Some parent = is in absurd cc

ordered : (i j : ℕ) → i < j → j < 4 → ComesFirst tree (slice_index_or children i no_child) (slice_index_or children j no_child)
ordered zero zero rises inside = absurd (omega arith)
ordered zero (suc zero) rises inside = inl (omega arith)
ordered zero (suc (suc zero)) rises inside = inl (omega arith)
ordered zero (suc (suc (suc zero))) rises inside = inl (omega arith)
ordered (suc zero) (suc (suc zero)) rises inside = inl (omega arith)
ordered (suc zero) (suc (suc (suc zero))) rises inside = inl (omega arith)
ordered (suc (suc zero)) (suc (suc (suc zero))) rises inside = inr (refl, inl (omega arith))
ordered i (suc (suc (suc (suc j)))) rises inside = absurd (omega arith)
ordered (suc i) zero rises inside = absurd (omega arith)
ordered (suc zero) (suc zero) rises inside = absurd (omega arith)
ordered (suc (suc i)) (suc zero) rises inside = absurd (omega arith)
ordered (suc (suc i)) (suc (suc zero)) rises inside = absurd (omega arith)
ordered (suc (suc (suc i))) (suc (suc (suc zero))) rises inside = absurd (omega arith)

pub returns : goal.returns
returns c = record { each = each; all = all; ordered = ordered }
