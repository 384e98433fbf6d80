-- One more object.
-- Serves `hashing::walk::Walk::of` and `::place`, `OrderLemmas` and `FoundLemmas`.
use Rattle.std.proofs.Common.{◌≡◌, ◌≢◌, ℕ, ◌+◌, ◌<◌, ◌≤◌, ◌^◌, Bool, false, cond, nat_eq, List, [], ◌∷◌, ◌++◌, length, get_or, set}
use Rattle.std.proofs.Common.{replicate, Option, Some, None, sym, ap, subst, ◌∙◌, arith, inl, inr}
use Rattle.std.specs.Prelude.{position}
use Rattle.std.specs.List.{IsDistinct, list_any}
use Rattle.std.proofs.lemmas.Bool.{cases_eq, eqb-true, eq-eqb, ne_eqb, lt-ltb, le-ltb}
use Rattle.std.proofs.lemmas.Cmp.{nat_eq_equiv}
use Rattle.std.proofs.lemmas.List.{get_or-set_same, get_or-set_other, get_or-replicate, length_push, length-replicate, length-set, get_or_read}
use Rattle.std.proofs.lemmas.List.Elements.{All-push, All-nil, All-from_get_or}
use Rattle.std.proofs.lemmas.List.Folds.{position_or_len_push, list_any_none, Any-from_list_any}
use Rattle.std.proofs.lemmas.List.Sums.{fails_before_first}
use Rattle.std.proofs.lemmas.Map.Keys.{IsDistinct-push}
use Rattle.std.proofs.lemmas.Map.Steps.{length-le_from_distinct_below}
use Rattle.sqz_alike.specs.Found.{place_of, with_object}
use Rattle.sqz_alike.specs.Numbering.{AreSomeOf, IsNumbering}
use Rattle.sqz_alike.proofs.PlaceLemmas.{place_of-le, place_of-new, with_object-old, with_object-new}

-- ---- the objects

pub AreSomeOf-none : (count : ℕ) → AreSomeOf count []
unfolding IsDistinct
AreSomeOf-none count = record { inside = All-nil (λ object. object < count); distinct = tt }

-- a new object is none of those found
is_new : (found : List ℕ) (object : ℕ) → place_of found object ≡ length found → list_any (nat_eq object) found ≡ false
is_new found object new =
    list_any_none (nat_eq object) found (All-from_get_or (λ other. nat_eq object other ≡ false) found 0
    (λ k lt. fails_before_first (nat_eq object) found k 0 (omega arith)))

module _ (count : ℕ) (found : List ℕ) (is : AreSomeOf count found) where
  AreSomeOf-push : (object : ℕ) → object < count → place_of found object ≡ length found → AreSomeOf count (found ++ object ∷ [])
  AreSomeOf-push object inside new =
      record {
        inside = All-push (λ other. other < count) found object is.inside inside;
        distinct = IsDistinct-push nat_eq_equiv found object is.distinct (is_new found object new);
      }

  pub AreSomeOf-with_object : (object : ℕ) → object < count → AreSomeOf count (with_object found object)
  AreSomeOf-with_object object inside =
      elim (cases_eq (place_of found object) (length found)) [
        | inl new ↦ rw (with_object-new found object new) (AreSomeOf-push object inside new)
        | inr old ↦
            let lt : place_of found object < length found = omega (arith, old, place_of-le found object) in
            rw (with_object-old found object lt) is
      ]

  -- there are at most `count` of them
  pub AreSomeOf-length : length found ≤ count
  AreSomeOf-length =
      length-le_from_distinct_below found count is.distinct (λ q any.
      let at = Any-from_list_any (nat_eq q) found any in
      let same : q ≡ at.1 = eqb-true q at.1 at.4 in
      let below : get_or found at.0 at.1 < count = is.inside at.0 at.1 at.2 in
      omega (arith, same, below, at.3))

-- ---- the places

position-old : (found : List ℕ) (object : ℕ) → place_of found object < length found
    → position (nat_eq object) found ≡ Some (place_of found object)
position-old found object lt =
    ap (λ (b : Bool). cond b (Some (place_of found object)) None) (lt-ltb (place_of found object) (length found) lt)

position-none : (found : List ℕ) (object : ℕ) → length found ≤ place_of found object → position (nat_eq object) found ≡ None
position-none found object le =
    ap (λ (b : Bool). cond b (Some (place_of found object)) None) (le-ltb (place_of found object) (length found) le)

module _ (found : List ℕ) (object : ℕ) where
  position-same : place_of found object ≡ length found → position (nat_eq object) (found ++ object ∷ []) ≡ Some (length found)
  position-same new =
      let place : place_of (found ++ object ∷ []) object ≡ length found = place_of-new found [] object new in
      position-old (found ++ object ∷ []) object (omega (arith, place, length_push found object)) ∙ ap (λ (n : ℕ). Some n) place

  position-other : (other : ℕ) → other ≢ object → position (nat_eq other) (found ++ object ∷ []) ≡ position (nat_eq other) found
  position-other other differs =
      let pushed : place_of (found ++ object ∷ []) other ≡ cond (nat_eq (place_of found other) (length found)) (length found + 1) (place_of found other) =
      position_or_len_push (nat_eq other) found object
      ∙ ap (λ (b : Bool). cond (nat_eq (place_of found other) (length found)) (length found + cond b 0 1) (place_of found other))
      (ne_eqb other object differs) in
      elim (cases_eq (place_of found other) (length found)) [
        | inl new ↦
            let place : place_of (found ++ object ∷ []) other ≡ length found + 1 =
            pushed ∙ ap (λ (b : Bool). cond b (length found + 1) (place_of found other)) (eq-eqb (place_of found other) (length found) new) in
            position-none (found ++ object ∷ []) other (omega (arith, place, length_push found object))
            ∙ sym (position-none found other (omega (arith, new)))
        | inr old ↦
            let place : place_of (found ++ object ∷ []) other ≡ place_of found other =
            pushed ∙ ap (λ (b : Bool). cond b (length found + 1) (place_of found other)) (ne_eqb (place_of found other) (length found) old) in
            let lt : place_of found other < length found = omega (arith, old, place_of-le found other) in
            position-old (found ++ object ∷ []) other (omega (arith, place, lt, length_push found object))
            ∙ ap (λ (n : ℕ). Some n) place
            ∙ sym (position-old found other lt)
      ]

-- nothing is found
pub IsNumbering-none : (count : ℕ) → count < 2 ^ 32 → IsNumbering [] (replicate count None)
IsNumbering-none count few =
    let none : Option ℕ = None in
    let sized = length-replicate count none in
    record {
      once = AreSomeOf-none (length (replicate count none));
      placed = λ object lt. get_or-replicate count object none none (omega arith);
      few = omega arith;
    }

-- an object that has no place gets the next one
pub IsNumbering-push : (found : List ℕ) (places : List (Option ℕ)) (object : ℕ) → IsNumbering found places → object < length places
    → place_of found object ≡ length found
    → IsNumbering (found ++ object ∷ []) (set places object (Some (length found)))
IsNumbering-push found places object is inside new =
    let next = Some (length found) in
    let sized = length-set places object next in
    record {
      once = subst (λ (n : ℕ). AreSomeOf n (found ++ object ∷ [])) (sym sized) (AreSomeOf-push (length places) found is.once object inside new);
      placed = λ other lt.
          elim (cases_eq other object) [
            | inl same ↦
                subst (λ (o : ℕ). get_or (set places object next) o None ≡ position (nat_eq o) (found ++ object ∷ [])) (sym same)
                (get_or-set_same places object next None inside ∙ sym (position-same found object new))
            | inr differs ↦
                get_or-set_other places object other next None differs
                ∙ is.placed other (omega arith)
                ∙ sym (position-other found object other differs)
          ];
      few = omega (arith, sized, is.few);
    }

-- an object without a place in the table is not found yet
pub placed-none : (found : List ℕ) (places : List (Option ℕ)) (object : ℕ) → IsNumbering found places → object < length places
    → (place : Option ℕ) → place ≡ get_or places object place → place ≡ None → place_of found object ≡ length found
placed-none found places object is inside place read none =
    let no_place : Option ℕ = None in
    let at = get_or_read places object place inside read no_place in
    let placed = is.placed object inside in
    elim (cases_eq (place_of found object) (length found)) [
      | inl new ↦ new
      | inr old ↦
          let there = position-old found object (omega (arith, old, place_of-le found object)) in
          absurd cc
    ]
