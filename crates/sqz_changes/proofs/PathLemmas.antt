-- The steps to a pair lead from the pair that owns it.
-- Serves `laws::paths_begin_at_owners`.
use Rattle.std.proofs.Common.{◌≡◌, ◌<◌, ◌≤◌, ℕ, zero, suc, Bool, true, false, cond, List, [], ◌∷◌, ◌++◌, length}
use Rattle.std.proofs.Common.{Option, Some, None, refl, sym, ap, subst, ◌∙◌, arith, inl, inr}
use Rattle.std.specs.Prelude.{slice_index_or}
use Rattle.std.specs.List.{find}
use Rattle.std.specs.Option.{option_or}
use Rattle.std.proofs.lemmas.Bool.{cases_eq}
use Rattle.std.proofs.lemmas.List.{get_or_append_left, get_or_default}
use Rattle.std.proofs.lemmas.List.Folds.{find-append}
use Rattle.std.proofs.lemmas.Option.{same_Some}
use Rattle.std.proofs.Math.Seq.{get_or-append_seam}
use Rattle.sqz_image.specs.declared.slot.Slot.{Slot}
use Rattle.sqz_alike.specs.Partners.{pair_at}
use Rattle.sqz_changes.specs.declared.leads.Step.{Step}
use Rattle.sqz_changes.specs.Compared.{Compared, is_anchor}
use Rattle.sqz_changes.specs.Differences.{common_slots}
use Rattle.sqz_changes.specs.Laws.{IsPath, LeadsFrom, owner_of}
use Rattle.sqz_changes.specs.Owners.{first_leads, first_owners, first_steps, lead_of, leads, leads_to, owner_by, path_by, path_to, path_within, through}
use Rattle.sqz_changes.proofs.LeadLemmas.{length-first_leads, length-first_owners}

-- ---- what is found

find-passes : {X : Type 0} (p : X → Bool) (xs : List X) (x : X) → find p xs ≡ Some x → p x ≡ true
find-passes p [] x e = absurd cc
find-passes {X} p (y ∷ ys) x e = by (p y) refl e (find-passes p ys x)
  where
    by : (b : Bool) → p y ≡ b → cond b (Some y) (find p ys) ≡ Some x → (find p ys ≡ Some x → p x ≡ true) → p x ≡ true
    by true f e rest = sym (ap p (same_Some y x e)) ∙ f
    by false f e rest = rest e

through-pair : (p : Step → Bool) (index : ℕ) (slots : List Slot) (step : Step) → find p (through index slots) ≡ Some step → step.pair ≡ index
through-pair p index [] step e = absurd cc
through-pair p index (slot ∷ slots) step e = by (p (record { pair = index; slot = slot })) e (through-pair p index slots step)
  where
    by : (b : Bool) → cond b (Some (record { pair = index; slot = slot })) (find p (through index slots)) ≡ Some step
        → (find p (through index slots) ≡ Some step → step.pair ≡ index) → step.pair ≡ index
    by true e rest = sym (ap (λ (s : Step). s.pair) (same_Some (record { pair = index; slot = slot }) step e))
    by false e rest = rest e

-- ---- an element of a list that grows at its end

module _ {X : Type 0} (first : ℕ → List X) (next : ℕ → X) (long : (count : ℕ) → length (first count) ≡ count)
    (more : (count : ℕ) → first (suc count) ≡ first count ++ next count ∷ []) (d : X) where
  pub grown : (count index : ℕ) → index < count → slice_index_or (first count) index d ≡ next index
  grown zero index lt = absurd (omega arith)
  grown (suc count) index lt =
      ap (λ (xs : List X). slice_index_or xs index d) (more count)
      ∙ elim (cases_eq index count) [
        | inl here ↦
            ap (λ (n : ℕ). slice_index_or (first count ++ next count ∷ []) n d) (here ∙ sym (long count))
            ∙ get_or-append_seam (first count) (next count) [] d
            ∙ ap next (sym here)
        | inr apart ↦
            get_or_append_left (first count) (next count ∷ []) d index (omega (arith, apart, lt, long count))
            ∙ grown count index (omega (arith, apart, lt))
      ]

module _ (c : Compared) where
  -- the steps from the first pairs are from these pairs
  early : (p : Step → Bool) (count : ℕ) (step : Step) → find p (first_steps c count) ≡ Some step → step.pair < count
  early p zero step e = absurd cc
  early p (suc count) step e =
      by (find p (first_steps c count)) (sym (find-append p (first_steps c count) (through count (common_slots c count))) ∙ e) (early p count step)
    where
      by : (o : Option Step) → option_or o (find p (through count (common_slots c count))) ≡ Some step → (o ≡ Some step → step.pair < count)
          → step.pair < suc count
      by (Some first) e before =
          let lt = before e in
          omega (arith, lt)
      by None e before =
          let here = through-pair p count (common_slots c count) step e in
          omega (arith, here)

  -- a lead is from a pair before the one that it leads to
  pub lead-leads : (index : ℕ) (step : Step) → lead_of c index ≡ Some step → (step.pair < index) × (leads_to c (pair_at c.pairs index) step ≡ true)
  lead-leads index step e = by (is_anchor c (pair_at c.pairs index)) e
    where
      by : (b : Bool) → cond b None (find (leads_to c (pair_at c.pairs index)) (first_steps c index)) ≡ Some step
          → (step.pair < index) × (leads_to c (pair_at c.pairs index) step ≡ true)
      by true e = absurd cc
      by false e = (
        early (leads_to c (pair_at c.pairs index)) index step e,
        find-passes (leads_to c (pair_at c.pairs index)) (first_steps c index) step e,
      )

  lead-at : (index : ℕ) → index < length c.pairs → slice_index_or (leads c) index None ≡ lead_of c index
  lead-at index lt = grown (first_leads c) (lead_of c) (length-first_leads c) (λ count. refl) None (length c.pairs) index lt

  owner-at : (count index : ℕ) → index < count
      → slice_index_or (first_owners (leads c) count) index 0 ≡ owner_by (first_owners (leads c) index) index (slice_index_or (leads c) index None)
  owner-at count index lt =
      grown (first_owners (leads c)) (λ (n : ℕ). owner_by (first_owners (leads c) n) n (slice_index_or (leads c) n None))
      (length-first_owners (leads c)) (λ count. refl) 0 count index lt

  module _ (index : ℕ) (lt : index < length c.pairs) where
    -- a pair without a lead owns itself
    owner-none : slice_index_or (leads c) index None ≡ None → owner_of c index ≡ index
    owner-none e = owner-at (length c.pairs) index lt ∙ ap (owner_by (first_owners (leads c) index) index) e

    -- another pair has the owner of the pair of its lead
    owner-some : (step : Step) → slice_index_or (leads c) index None ≡ Some step → step.pair < index → owner_of c index ≡ owner_of c step.pair
    owner-some step e before =
        owner-at (length c.pairs) index lt
        ∙ ap (owner_by (first_owners (leads c) index) index) e
        ∙ get_or_default (first_owners (leads c) index) step.pair index 0 (omega (arith, before, length-first_owners (leads c) index))
        ∙ owner-at index step.pair before
        ∙ sym (owner-at (length c.pairs) step.pair (omega (arith, before, lt)))

  -- one more step
  path-more : (from before to : ℕ) (steps : List Step) (step : Step) → IsPath c from steps before → LeadsFrom c before to step
      → IsPath c from (steps ++ step ∷ []) to
  path-more from before to [] step path last = (to, subst (λ (n : ℕ). LeadsFrom c n to step) (sym path) last, refl)
  path-more from before to (first ∷ steps) step path last = (path.0, path.1, path-more path.0 before to steps step path.2 last)

  module _ (index : ℕ) (lt : index < length c.pairs) where
    first-path : (lead : Option Step) → slice_index_or (leads c) index None ≡ lead → index ≡ 0 → owner_of c index ≡ index
    first-path None e none = owner-none index lt e
    first-path (Some step) e none =
        let lead = lead-leads index step (sym (lead-at index lt) ∙ e) in
        absurd (omega (arith, lead.0, none))

    next-path : (most : ℕ) (lead : Option Step) → slice_index_or (leads c) index None ≡ lead
        → ((other : ℕ) → other < index → IsPath c (owner_of c other) (path_within (leads c) most other) other)
        → IsPath c (owner_of c index) (path_by (path_within (leads c) most) lead) index
    next-path most None e before = owner-none index lt e
    next-path most (Some step) e before =
        let lead = lead-leads index step (sym (lead-at index lt) ∙ e) in
        let last : LeadsFrom c step.pair index step = record { from_is = refl; inside = lt; leads = lead.1 } in
        subst (λ (owner : ℕ). IsPath c owner (path_within (leads c) most step.pair ++ step ∷ []) index) (sym (owner-some index lt step e lead.0))
        (path-more (owner_of c step.pair) step.pair index (path_within (leads c) most step.pair) step (before step.pair lead.0) last)

  within : (most index : ℕ) → index ≤ most → index < length c.pairs → IsPath c (owner_of c index) (path_within (leads c) most index) index
  within zero index le lt = first-path index lt (slice_index_or (leads c) index None) refl (omega (arith, le))
  within (suc most) index le lt =
      next-path index lt most (slice_index_or (leads c) index None) refl
      (λ other before. within most other (omega (arith, before, le)) (omega (arith, before, lt)))

  pub begins_at_owner : (index : ℕ) → index < length c.pairs → IsPath c (owner_of c index) (path_to (leads c) index) index
  begins_at_owner index lt = within index index (omega arith) lt
