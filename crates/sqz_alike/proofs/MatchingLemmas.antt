-- One more pair.
-- Serves `matching::Matching::new` and `::join`, `WalkLemmas` , `CorrespondenceLemmas`,
-- `AlikeLemmas` and `ConverseLemmas`.
use Rattle.std.proofs.Common.{◌≡◌, ◌≢◌, ℕ, zero, suc, ◌+◌, ◌<◌, Bool, true, false, List, [], ◌∷◌, ◌++◌, length, set, replicate}
use Rattle.std.proofs.Common.{Option, Some, None, refl, sym, ap, subst, ◌∙◌, arith, inl, inr}
use Rattle.std.specs.Prelude.{Contains}
use Rattle.std.proofs.lemmas.Bool.{cases_eq}
use Rattle.std.proofs.lemmas.Option.{same_Some, none-some}
use Rattle.std.proofs.lemmas.List.{get_or-set_same, get_or-set_other, length-append, length-set, append-nil, length-replicate}
use Rattle.std.proofs.lemmas.List.Elements.{Contains-push, Contains-push_cases, Contains-append_left}
use Rattle.sqz_alike.specs.declared.matching.Pair.{Pair}
use Rattle.sqz_alike.specs.Matching.{partner_in, single_count, IsMatching, Joins}

-- ---- partners

single_count-set : (partners : List (Option ℕ)) (i partner : ℕ) → i < length partners → partner_in partners i ≡ None
    → single_count (set partners i (Some partner)) + 1 ≡ single_count partners
single_count-set [] i partner lt e = absurd (omega arith)
single_count-set (None ∷ partners) zero partner lt e = omega arith
single_count-set (Some other ∷ partners) zero partner lt e = absurd cc
single_count-set (None ∷ partners) (suc i) partner lt e =
    let rest = single_count-set partners i partner (omega arith) e in
    omega (arith, rest)
single_count-set (Some other ∷ partners) (suc i) partner lt e = single_count-set partners i partner (omega arith) e

single_count-none : (count : ℕ) → single_count (replicate count None) ≡ count
single_count-none zero = refl
single_count-none (suc count) = ap suc (single_count-none count)

partner_in-none : (count object : ℕ) → partner_in (replicate count None) object ≡ None
partner_in-none zero object = refl
partner_in-none (suc count) zero = refl
partner_in-none (suc count) (suc object) = partner_in-none count object

-- ---- no pairs

pub IsMatching-none : (old new : ℕ) → IsMatching [] (replicate old None) (replicate new None)
IsMatching-none old new =
    let none : Option ℕ = None in
    record {
      old_is = λ pair in_none. absurd (omega (arith, in_none.1));
      new_is = λ pair in_none. absurd (omega (arith, in_none.1));
      by_old = λ one other e. absurd (none-some other (sym (partner_in-none old one) ∙ e));
      by_new = λ one other e. absurd (none-some one (sym (partner_in-none new other) ∙ e));
      few = omega (arith, single_count-none old, length-replicate old none);
    }

-- ---- one more

Contains-one : {X : Type 0} (x y : X) → Contains (x ∷ []) y → y ≡ x
Contains-one x y (zero, lt, e) = sym e
Contains-one x y (suc k, lt, e) = absurd (omega arith)

abbrev pub pair_of : ℕ → ℕ → Pair
pair_of old new = record { old = old; new = new }

module _ (pairs : List Pair) (new_of old_of : List (Option ℕ)) (matching : IsMatching pairs new_of old_of) (old new : ℕ)
    (old_inside : old < length new_of) (new_inside : new < length old_of) where
  abbrev more : List Pair
  more = pairs ++ pair_of old new ∷ []

  module _ (old_free : partner_in new_of old ≡ None) (new_free : partner_in old_of new ≡ None) where
    -- an object of a pair is another one
    apart_old : (pair : Pair) → Contains pairs pair → pair.old ≢ old
    apart_old pair in_pairs same =
        none-some pair.new (sym old_free ∙ ap (partner_in new_of) (sym same) ∙ matching.old_is pair in_pairs)

    apart_new : (pair : Pair) → Contains pairs pair → pair.new ≢ new
    apart_new pair in_pairs same =
        none-some pair.old (sym new_free ∙ ap (partner_in old_of) (sym same) ∙ matching.new_is pair in_pairs)

    abbrev new_of_more : List (Option ℕ)
    new_of_more = set new_of old (Some new)

    abbrev old_of_more : List (Option ℕ)
    old_of_more = set old_of new (Some old)

    same_new : partner_in new_of_more old ≡ Some new
    same_new = get_or-set_same new_of old (Some new) None old_inside

    same_old : partner_in old_of_more new ≡ Some old
    same_old = get_or-set_same old_of new (Some old) None new_inside

    pub IsMatching-push : IsMatching more new_of_more old_of_more
    IsMatching-push =
        record {
          old_is = λ pair in_more.
              elim (Contains-push_cases pairs (pair_of old new) pair in_more) [
                | inl early ↦
                    get_or-set_other new_of old pair.old (Some new) None (apart_old pair early) ∙ matching.old_is pair early
                | inr late ↦ subst (λ (p : Pair). partner_in new_of_more p.old ≡ Some p.new) late same_new
              ];
          new_is = λ pair in_more.
              elim (Contains-push_cases pairs (pair_of old new) pair in_more) [
                | inl early ↦
                    get_or-set_other old_of new pair.new (Some old) None (apart_new pair early) ∙ matching.new_is pair early
                | inr late ↦ subst (λ (p : Pair). partner_in old_of_more p.new ≡ Some p.old) late same_old
              ];
          by_old = λ one other e.
              elim (cases_eq one old) [
                | inl same ↦
                    let partner : new ≡ other =
                    same_Some _ _ (sym same_new ∙ ap (partner_in new_of_more) (sym same) ∙ e) in
                    subst (λ (p : Pair). Contains more p)
                    (ap (λ (n : ℕ). pair_of n new) (sym same) ∙ ap (pair_of one) partner) (Contains-push pairs (pair_of old new))
                | inr differs ↦
                    Contains-append_left pairs (pair_of old new ∷ []) (pair_of one other)
                    (matching.by_old one other (sym (get_or-set_other new_of old one (Some new) None differs) ∙ e))
              ];
          by_new = λ one other e.
              elim (cases_eq other new) [
                | inl same ↦
                    let partner : old ≡ one =
                    same_Some _ _ (sym same_old ∙ ap (partner_in old_of_more) (sym same) ∙ e) in
                    subst (λ (p : Pair). Contains more p)
                    (ap (λ (n : ℕ). pair_of n new) partner ∙ ap (pair_of one) (sym same)) (Contains-push pairs (pair_of old new))
                | inr differs ↦
                    Contains-append_left pairs (pair_of old new ∷ []) (pair_of one other)
                    (matching.by_new one other (sym (get_or-set_other old_of new other (Some old) None differs) ∙ e))
              ];
          few =
              omega (
                arith,
                matching.few,
                length-append pairs (pair_of old new ∷ []),
                length-set new_of old (Some new),
                single_count-set new_of old new old_inside old_free,
              );
        }

    pub Joins-push : Joins (pair_of old new) pairs more true
    Joins-push =
        record {
          added = pair_of old new ∷ [];
          more = refl;
          only = λ other in_added. Contains-one (pair_of old new) other in_added;
          paired = λ e. Contains-push pairs (pair_of old new);
          clashes = λ e. absurd cc;
        }

  -- the old object has a partner
  pub Joins-old : (partner : ℕ) (joined : Bool) → partner_in new_of old ≡ Some partner
      → (joined ≡ true → partner ≡ new) → (joined ≡ false → partner ≢ new) → Joins (pair_of old new) pairs pairs joined
  Joins-old partner joined is same differs =
      record {
        added = [];
        more = sym (append-nil pairs);
        only = λ other in_none. absurd (omega (arith, in_none.1));
        paired = λ e. subst (λ (n : ℕ). Contains pairs (pair_of old n)) (same e) (matching.by_old old partner is);
        clashes = λ e. record {
          other = pair_of old partner;
          paired = matching.by_old old partner is;
          is_other = λ f. differs e (ap (λ (p : Pair). p.new) f);
          shared = inl refl;
        };
      }

  -- the new object has a partner, and the old one has none
  pub Joins-new : (partner : ℕ) → partner_in new_of old ≡ None → partner_in old_of new ≡ Some partner
      → Joins (pair_of old new) pairs pairs false
  Joins-new partner free is =
      let paired = matching.by_new partner new is in
      record {
        added = [];
        more = sym (append-nil pairs);
        only = λ other in_none. absurd (omega (arith, in_none.1));
        paired = λ e. absurd cc;
        clashes = λ e. record {
          other = pair_of partner new;
          paired = paired;
          is_other = λ f.
              none-some new
              (sym free ∙ ap (λ (p : Pair). partner_in new_of p.old) (sym f) ∙ matching.old_is (pair_of partner new) paired);
          shared = inr refl;
        };
      }
