-- Whether two objects are a pair.
-- Serves `Comparison::are_partners`, `anchors` and `leads`.
use Rattle.std.proofs.Common.{◌≡◌, ℕ, zero, suc, Bool, true, false, ◌&&◌, ◌||◌, eqb, List, [], ◌∷◌, ◌++◌, length}
use Rattle.std.proofs.Common.{◌<◌, ◌≤◌}
use Rattle.std.proofs.Math.Logic.{∥∥₁_elim}
use mathlib.Core.Bool.{Bool-set}
use Rattle.std.proofs.lemmas.List.{get_or_past}
use Rattle.std.proofs.lemmas.List.Folds.{list_any-append}
use Rattle.std.proofs.lemmas.Option.{none-some, same_Some}
use Rattle.sqz_image.specs.Objects.{object_count}
use Rattle.sqz_trace.specs.declared.live_objects.Live.{Live}
use Rattle.sqz_alike.specs.declared.matching.Matching.{Matching}
use Rattle.sqz_alike.specs.Walk.{IsWalk}
use Rattle.sqz_alike.proofs.WalkLemmas.{new_inside, none_prop, old_inside}
use Rattle.std.proofs.Common.{Option, Some, None, refl, sym, ap, ◌∙◌, arith, inl, inr}
use Rattle.std.specs.Prelude.{Contains, nat_eq}
use Rattle.std.specs.Option.{option_eq}
use Rattle.std.proofs.lemmas.Bool.{and_parts, or_cases, eq-eqb, eqb-true}
use Rattle.sqz_alike.specs.declared.matching.Pair.{Pair}
use Rattle.sqz_alike.specs.Matching.{IsMatching, partner_in}
use Rattle.sqz_alike.proofs.MatchingLemmas.{pair_of}
use Rattle.sqz_changes.specs.Compared.{is_pair}

and-true : (one other : Bool) → one ≡ true → other ≡ true → (one && other) ≡ true
and-true true other e f = f
and-true false other e f = e

or_first : (one other : Bool) → one ≡ true → (one || other) ≡ true
or_first true other e = refl
or_first false other e = absurd cc

or_second : (one other : Bool) → other ≡ true → (one || other) ≡ true
or_second true other e = refl
or_second false other e = e

-- a pair is one of two lists
pub is_pair-append : (xs ys : List Pair) (old new : ℕ) → is_pair (xs ++ ys) old new ≡ (is_pair xs old new || is_pair ys old new)
is_pair-append xs ys old new = list_any-append (λ (pair : Pair). eqb pair.old old && eqb pair.new new) xs ys

-- what is contained is a pair
pub is_pair-of : (pairs : List Pair) (pair : Pair) → Contains pairs pair → is_pair pairs pair.old pair.new ≡ true
is_pair-of [] pair (k, lt, e) = absurd (omega arith)
is_pair-of (first ∷ pairs) pair (zero, lt, e) =
    or_first (eqb first.old pair.old && eqb first.new pair.new) (is_pair pairs pair.old pair.new)
    (and-true (eqb first.old pair.old) (eqb first.new pair.new)
    (eq-eqb first.old pair.old (ap (λ (p : Pair). p.old) e)) (eq-eqb first.new pair.new (ap (λ (p : Pair). p.new) e)))
is_pair-of (first ∷ pairs) pair (suc k, lt, e) =
    or_second (eqb first.old pair.old && eqb first.new pair.new) (is_pair pairs pair.old pair.new) (is_pair-of pairs pair (k, omega arith, e))

-- a pair is contained
pub pair-in : (pairs : List Pair) (old new : ℕ) → is_pair pairs old new ≡ true → Contains pairs (pair_of old new)
pair-in [] old new e = absurd cc
pair-in (first ∷ pairs) old new e =
    elim (or_cases (eqb first.old old && eqb first.new new) (is_pair pairs old new) e) [
      | inl here ↦
          let parts = and_parts (eqb first.old old) (eqb first.new new) here in
          (zero, omega arith, ap (λ (n : ℕ). pair_of n first.new) (eqb-true first.old old parts.0) ∙ ap (pair_of old) (eqb-true first.new new parts.1))
      | inr later ↦
          let rest = pair-in pairs old new later in
          (suc rest.0, omega (arith, rest.1), rest.2)
    ]

module _ (pairs : List Pair) (new_of old_of : List (Option ℕ)) (matching : IsMatching pairs new_of old_of) where
  agree : (one other : Bool) → (one ≡ true → other ≡ true) → (other ≡ true → one ≡ true) → one ≡ other
  agree true other f g = sym (f refl)
  agree false true f g = g refl
  agree false false f g = refl

  eq_some : (partner : Option ℕ) (new : ℕ) → option_eq nat_eq partner (Some new) ≡ true → partner ≡ Some new
  eq_some (Some partner) new e = ap Some (eqb-true partner new e)
  eq_some None new e = absurd cc

  some_eq : (partner : Option ℕ) (new : ℕ) → partner ≡ Some new → option_eq nat_eq partner (Some new) ≡ true
  some_eq (Some partner) new e = eq-eqb partner new cc
  some_eq None new e = absurd cc

  -- two objects are a pair if one is the partner of the other
  pub partner-is_pair : (old new : ℕ) → option_eq nat_eq (partner_in new_of old) (Some new) ≡ is_pair pairs old new
  partner-is_pair old new =
      agree (option_eq nat_eq (partner_in new_of old) (Some new)) (is_pair pairs old new)
      (λ e. is_pair-of pairs (pair_of old new) (matching.by_old old new (eq_some (partner_in new_of old) new e)))
      (λ e. some_eq (partner_in new_of old) new (matching.old_is (pair_of old new) (pair-in pairs old new e)))

-- what holds of a pair, by the walk that found it
module _ (old new : Live) (matching : Matching) (walk : ∥ IsWalk old new matching ∥₁) where
  pub partners : (one other : ℕ) → option_eq nat_eq (partner_in matching.new_of.items one) (Some other) ≡ is_pair matching.pairs.items one other
  partners one other =
      ∥∥₁_elim walk (Bool-set _ _) (λ is. partner-is_pair matching.pairs.items matching.new_of.items matching.old_of.items is.matched one other)

  pub old-in : (pair : Pair) → Contains matching.pairs.items pair → pair.old < object_count old.graph.heap.now
  old-in pair paired =
      let h : object_count old.graph.heap.now ≤ pair.old → ⊥ = λ le.
      ∥∥₁_elim walk none_prop (λ is. let lt = old_inside old new matching is pair paired in absurd (omega (arith, lt, le))) in
      omega (arith, h)

  pub new-in : (pair : Pair) → Contains matching.pairs.items pair → pair.new < object_count new.graph.heap.now
  new-in pair paired =
      let h : object_count new.graph.heap.now ≤ pair.new → ⊥ = λ le.
      ∥∥₁_elim walk none_prop (λ is. let lt = new_inside old new matching is pair paired in absurd (omega (arith, lt, le))) in
      omega (arith, h)

  -- there are no more pairs than objects
  pub few-pairs : length matching.pairs.items ≤ object_count old.graph.heap.now
  few-pairs =
      let h : object_count old.graph.heap.now < length matching.pairs.items → ⊥ = λ lt.
      ∥∥₁_elim walk none_prop (λ is. absurd (omega (arith, lt, is.matched.few, is.old_sized))) in
      omega (arith, h)

  -- an object with a partner is an object
  pub partner-in : (one other : ℕ) → partner_in matching.new_of.items one ≡ Some other → one < object_count old.graph.heap.now
  partner-in one other e =
      let h : object_count old.graph.heap.now ≤ one → ⊥ = λ le.
      ∥∥₁_elim walk none_prop (λ is.
      none-some other (sym (get_or_past matching.new_of.items one None (omega (arith, le, is.old_sized))) ∙ e)) in
      omega (arith, h)

  -- an object has one partner
  pub one_partner : (object one other : ℕ) → is_pair matching.pairs.items object one ≡ true → is_pair matching.pairs.items object other ≡ true → one ≡ other
  one_partner object one other e f =
      let first = some_is (partner_in matching.new_of.items object) one (partners object one ∙ e) in
      let second = some_is (partner_in matching.new_of.items object) other (partners object other ∙ f) in
      same_Some one other (sym first ∙ second)
    where
      some_is : (partner : Option ℕ) (new : ℕ) → option_eq nat_eq partner (Some new) ≡ true → partner ≡ Some new
      some_is (Some partner) new e = ap Some (eqb-true partner new e)
      some_is None new e = absurd cc
