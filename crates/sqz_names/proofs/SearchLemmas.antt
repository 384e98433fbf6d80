-- What `partition_point` finds in a list that is in the order of its items' numbers.
-- Serves `lookup::Names::method_name` and `::variable_name`.
use Rattle.std.proofs.Common.{◌≡◌, ℕ, ◌<◌, Bool, true, false, ltb, List, length, get_or, Contains, Bor, ap, ◌∙◌, inl, inr, arith}
use Rattle.std.proofs.lemmas.Bool.{cases_lt, ltb-true, ltb-false}
use Rattle.std.proofs.lemmas.List.{get_or_default}
use Rattle.std.proofs.lemmas.List.Sorted.{IsPartitionedBy-ltb, IsPartitionPoint-from_clause}
use Rattle.std.specs.Fn.{Called, ComputesKey}
use denote.Param.Members.{Mut}
use Rattle.std.specs.List.Sorted.{IsNonDecreasingBy, IsPartitionedBy, IsPartitionPoint}

-- the item at a place of a list has a number
pub record HasAt {X : Type 0} (number : X → ℕ) (xs : List X) (place target : ℕ) : Type 0 where
  pub inside : place < length xs
  pub is : (d : X) → number (get_or xs place d) ≡ target

module _ {X : Type 0} (number : X → ℕ) (xs : List X) (place target : ℕ) (ordered : IsNonDecreasingBy number xs)
    (begins : IsPartitionPoint (λ x. ltb (number x) target ≡ true) (λ x. ltb (number x) target ≡ false) xs place)
    (x : X) (has : Contains xs x) (is : number x ≡ target) where
  -- an item with the number is not before the place
  not_before : has.0 < place → ⊥
  not_before lt =
      let less = ltb-true (number (get_or xs has.0 x)) target (begins.0 has.0 x (omega arith) lt) in
      let same = ap number has.2 ∙ is in
      absurd (omega (arith, less, same))

  -- so the item at the place has it
  HasAt-place : HasAt number xs place target
  HasAt-place =
      elim (cases_lt has.0 place) [
        | inl before ↦ absurd (not_before before)
        | inr after ↦
            let inside : place < length xs = omega (arith, after, has.1) in
            record {
              inside = inside;
              is = λ d.
                  let low = ltb-false (number (get_or xs place d)) target (begins.1 place d (omega arith) inside) in
                  let high = ordered place has.0 d after has.1 in
                  let same = ap number (get_or_default xs has.0 d x has.1 ∙ has.2) ∙ is in
                  omega (arith, low, high, same);
            }
      ]

-- the same by the clause of `partition_point` about a copy of the list
pub HasAt-found : {X : Type 0} (number : X → ℕ) {F : Type 0} {g : Mut F (Bor X × Unit {0}) Bool} {f : F}
    (xs ys : List X) (place target : ℕ) → ys ≡ xs → IsNonDecreasingBy number xs
    → ((q : X → Bool) → ComputesKey g q f → IsPartitionedBy q ys
    → IsPartitionPoint (λ y. q y ≡ true) (λ y. q y ≡ false) ys place)
    → ((a : Bor X × Unit {0}) (r : Bool) (f' : F) → Called g f a r f' → (r ≡ ltb (number a.0.now) target) × (f' ≡ f))
    → (x : X) → Contains xs x → number x ≡ target → HasAt number xs place target
HasAt-found {X} number {F} {g} {f} xs ys place target same ordered clause tests x has is =
    let begins = IsPartitionPoint-from_clause (λ (y : X). ltb (number y) target) ys place clause
    (rw same (IsPartitionedBy-ltb number xs target ordered)) tests in
    HasAt-place number xs place target ordered (rw same at begins) x has is
