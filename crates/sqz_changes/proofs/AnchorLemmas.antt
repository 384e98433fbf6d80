-- Which pairs own themselves.
-- Serves `anchors` and `leads::leads_of`.
use Rattle.std.proofs.Common.{◌≡◌, ◌<◌, ℕ, zero, suc, Bool, true, false, ◌&&◌, ◌||◌, eqb, List, [], ◌∷◌, ◌++◌, length, set, replicate}
use Rattle.std.proofs.Common.{Option, Some, None, refl, sym, ap, ◌∙◌}
use Rattle.std.specs.Prelude.{nat_eq, slice_index_or}
use Rattle.std.specs.Option.{option_eq}
use Rattle.std.proofs.lemmas.Bool.{and_parts, eq-eqb, eqb-true}
use Rattle.std.proofs.lemmas.List.{get_or-set_same, get_or-set_other}
use Rattle.std.proofs.lemmas.List.Elements.{Contains-push}
use Rattle.sqz_alike.specs.declared.matching.Pair.{Pair}
use Rattle.sqz_alike.specs.Matching.{partner_in}
use Rattle.sqz_changes.specs.Anchors.{AreAnchored, is_with}
use Rattle.sqz_changes.specs.Compared.{is_pair}
use Rattle.sqz_changes.proofs.PairLemmas.{is_pair-append, is_pair-of}

or-false : (b : Bool) → (b || false) ≡ b
or-false true = refl
or-false false = refl

some_eq : (partner : Option ℕ) (new : ℕ) → partner ≡ Some new → option_eq nat_eq partner (Some new) ≡ true
some_eq (Some partner) new e = eq-eqb partner new cc
some_eq None new e = absurd cc

pub eq_some : (partner : Option ℕ) (new : ℕ) → option_eq nat_eq partner (Some new) ≡ true → partner ≡ Some new
eq_some (Some partner) new e = ap Some (eqb-true partner new e)
eq_some None new e = absurd cc

-- no flags
pub AreAnchored-none : (new_of : List (Option ℕ)) (count : ℕ) → AreAnchored new_of [] (replicate count false)
AreAnchored-none new_of count object = flag count object ∙ sym (by (partner_in new_of object))
  where
    flag : (count object : ℕ) → slice_index_or (replicate count false) object false ≡ false
    flag zero object = refl
    flag (suc count) zero = refl
    flag (suc count) (suc object) = flag count object

    by : (partner : Option ℕ) → is_with [] object partner ≡ false
    by (Some partner) = refl
    by None = refl

module _ (new_of : List (Option ℕ)) (pairs : List Pair) (pair : Pair) where
  -- another object has no more pairs
  apart : (object : ℕ) (partner : Option ℕ)
      → ((new : ℕ) → partner ≡ Some new → (eqb pair.old object && eqb pair.new new) ≡ true → ⊥)
      → is_with (pairs ++ pair ∷ []) object partner ≡ is_with pairs object partner
  apart object None miss = refl
  apart object (Some new) miss =
      is_pair-append pairs (pair ∷ []) object new
      ∙ ap (λ (b : Bool). is_pair pairs object new || (b || false)) (is_false (eqb pair.old object && eqb pair.new new) (miss new refl))
      ∙ or-false (is_pair pairs object new)
    where
      is_false : (b : Bool) → (b ≡ true → ⊥) → b ≡ false
      is_false true f = absurd (f refl)
      is_false false f = refl

  module _ (flags : List Bool) (are : AreAnchored new_of pairs flags) where
    -- a flag for a pair of partners
    pub AreAnchored-set : partner_in new_of pair.old ≡ Some pair.new → pair.old < length flags
        → AreAnchored new_of (pairs ++ pair ∷ []) (set flags pair.old true)
    AreAnchored-set partnered inside object = by (eqb object pair.old) refl
      where
        by : (b : Bool) → eqb object pair.old ≡ b
            → slice_index_or (set flags pair.old true) object false ≡ is_with (pairs ++ pair ∷ []) object (partner_in new_of object)
        by true e =
            let here : object ≡ pair.old = eqb-true object pair.old e in
            ap (λ (n : ℕ). slice_index_or (set flags pair.old true) n false) here
            ∙ get_or-set_same flags pair.old true false inside
            ∙ sym (is_pair-of (pairs ++ pair ∷ []) pair (Contains-push pairs pair))
            ∙ sym (ap (is_with (pairs ++ pair ∷ []) pair.old) partnered)
            ∙ sym (ap (λ (n : ℕ). is_with (pairs ++ pair ∷ []) n (partner_in new_of n)) here)
        by false e =
            get_or-set_other flags pair.old object true false (λ here. differ (sym (eq-eqb object pair.old here) ∙ e))
            ∙ are object
            ∙ sym (apart object (partner_in new_of object) (λ new f both.
            let parts = and_parts (eqb pair.old object) (eqb pair.new new) both in
            differ (sym (eq-eqb object pair.old (sym (eqb-true pair.old object parts.0))) ∙ e)))
          where
            differ : true ≡ false → ⊥
            differ e = cc

    -- no flag for objects that are no partners
    pub AreAnchored-kept : option_eq nat_eq (partner_in new_of pair.old) (Some pair.new) ≡ false → AreAnchored new_of (pairs ++ pair ∷ []) flags
    AreAnchored-kept none object =
        are object
        ∙ sym (apart object (partner_in new_of object) (λ new f both.
        let parts = and_parts (eqb pair.old object) (eqb pair.new new) both in
        let partnered = ap (partner_in new_of) (eqb-true pair.old object parts.0) ∙ f ∙ ap Some (sym (eqb-true pair.new new parts.1)) in
        differ (sym (some_eq (partner_in new_of pair.old) pair.new partnered) ∙ none)))
      where
        differ : true ≡ false → ⊥
        differ e = cc
