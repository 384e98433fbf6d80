-- The places of objects, and what is found.
-- Serves `hashing::walk::Walk::place`, `NumberingLemmas`, `HashingLemmas`, `OrderLemmas`, `AlikeLemmas`,
-- `ReadLemmas`, `ClosureLemmas` and `ConverseLemmas`.
use Rattle.std.proofs.Common.{◌≡◌, ℕ, ◌+◌, ◌<◌, ◌≤◌, Bool, cond, nat_eq, not, List, [], ◌∷◌, ◌++◌, length}
use Rattle.std.proofs.Common.{refl, sym, ap, ◌∙◌, arith, inl, inr}
use Rattle.std.specs.Prelude.{fold, All}
use Rattle.std.proofs.lemmas.List.Elements.{All-push}
use Rattle.std.proofs.lemmas.Bool.{cases_eq, eq-eqb, ne_eqb}
use Rattle.std.proofs.lemmas.List.{append-nil, append_assoc}
use Rattle.std.proofs.lemmas.List.Folds.{prefix_len-append}
use Rattle.std.proofs.lemmas.List.Sums.{prefix_len-le-length}
use Rattle.sqz_alike.specs.Found.{place_of, with_object}

pub place_of-le : (found : List ℕ) (object : ℕ) → place_of found object ≤ length found
place_of-le found object = prefix_len-le-length (λ other. not (nat_eq object other)) found

-- what is found later changes no place
pub place_of-append : (found later : List ℕ) (object : ℕ) → place_of found object < length found
    → place_of (found ++ later) object ≡ place_of found object
place_of-append found later object lt =
    prefix_len-append (λ (other : ℕ). not (nat_eq object other)) found later
    ∙ ap (λ (b : Bool). cond b (length found + place_of later object) (place_of found object))
    (ne_eqb (place_of found object) (length found) (λ e. omega arith))

-- a new object gets the next place
pub place_of-new : (found later : List ℕ) (object : ℕ) → place_of found object ≡ length found
    → place_of (found ++ object ∷ later) object ≡ length found
place_of-new found later object new =
    let first : place_of (object ∷ later) object ≡ 0 =
    ap (λ (b : Bool). cond (not b) (1 + place_of later object) 0) (eq-eqb object object refl) in
    let split : place_of (found ++ object ∷ later) object ≡ length found + place_of (object ∷ later) object =
    prefix_len-append (λ (other : ℕ). not (nat_eq object other)) found (object ∷ later)
    ∙ ap (λ (b : Bool). cond b (length found + place_of (object ∷ later) object) (place_of found object))
    (eq-eqb (place_of found object) (length found) new) in
    omega arith

pub with_object-old : (found : List ℕ) (object : ℕ) → place_of found object < length found → with_object found object ≡ found
with_object-old found object lt =
    ap (λ (b : Bool). cond b (found ++ object ∷ []) found) (ne_eqb (place_of found object) (length found) (λ e. omega arith))

pub with_object-new : (found : List ℕ) (object : ℕ) → place_of found object ≡ length found
    → with_object found object ≡ found ++ object ∷ []
with_object-new found object new =
    ap (λ (b : Bool). cond b (found ++ object ∷ []) found) (eq-eqb (place_of found object) (length found) new)

-- an object that is found has the place at which it was put
pub place_of-with_object : (found later : List ℕ) (object : ℕ) → place_of (with_object found object ++ later) object ≡ place_of found object
place_of-with_object found later object =
    elim (cases_eq (place_of found object) (length found)) [
      | inl new ↦
          ap (λ (xs : List ℕ). place_of (xs ++ later) object) (with_object-new found object new)
          ∙ ap (λ (xs : List ℕ). place_of xs object) (append_assoc found (object ∷ []) later)
          ∙ place_of-new found later object new
          ∙ sym new
      | inr old ↦
          let lt : place_of found object < length found = omega (arith, old, place_of-le found object) in
          ap (λ (xs : List ℕ). place_of (xs ++ later) object) (with_object-old found object lt) ∙ place_of-append found later object lt
    ]

-- what is found stays found, at its place
with_object-more : (found : List ℕ) (object : ℕ) → (added : List ℕ) × (with_object found object ≡ found ++ added)
with_object-more found object =
    elim (cases_eq (place_of found object) (length found)) [
      | inl new ↦ (object ∷ [], with_object-new found object new)
      | inr old ↦
          ([], with_object-old found object (omega (arith, old, place_of-le found object)) ∙ sym (append-nil found))
    ]

pub with_objects-more : (found objects : List ℕ) → (added : List ℕ) × (fold with_object found objects ≡ found ++ added)
with_objects-more found [] = ([], sym (append-nil found))
with_objects-more found (object ∷ objects) =
    let first = with_object-more found object in
    let rest = with_objects-more (with_object found object) objects in (
      first.0 ++ rest.0,
      rest.1 ∙ ap (λ (xs : List ℕ). xs ++ rest.0) first.1 ∙ append_assoc found first.0 rest.0,
    )

-- what holds of all that is found, and of one more object, holds of both
pub with_object-all : (P : ℕ → Type 0) (found : List ℕ) (object : ℕ) → P object → All P found → All P (with_object found object)
with_object-all P found object holds all =
    elim (cases_eq (place_of found object) (length found)) [
      | inl new ↦ rw (with_object-new found object new) (All-push P found object all holds)
      | inr old ↦ rw (with_object-old found object (omega (arith, old, place_of-le found object))) all
    ]
