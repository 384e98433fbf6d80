-- The first steps that lead to pairs.
-- Serves `leads` and `owners`.
use Rattle.std.proofs.Common.{◌≡◌, ◌<◌, ◌+◌, ℕ, zero, suc, Bool, true, false, ◌&&◌, eqb, cond, List, [], ◌∷◌, ◌++◌, length, set}
use Rattle.std.proofs.Common.{Option, Some, None, refl, sym, ap, ◌∙◌, arith, append_assoc, inl, inr, ◌⊎◌, ◌≤◌}
use Rattle.std.specs.Prelude.{Contains, slice_index_or}
use Rattle.std.specs.List.{find}
use Rattle.std.specs.Option.{option_or}
use Rattle.std.proofs.lemmas.Bool.{and_parts, eq-eqb, eqb-true}
use Rattle.std.proofs.lemmas.List.{get_or-set_same, get_or-set_other, get_or_append_left, get_or_default, get_or_past, length-append, map-append}
use Rattle.std.proofs.Math.Seq.{get_or-append_seam}
use Rattle.std.proofs.lemmas.List.Folds.{find-append}
use Rattle.sqz_image.specs.declared.slot.Slot.{Slot}
use Rattle.sqz_image.specs.declared.slot.Slot.TheVariants.{Field}
use Rattle.sqz_alike.specs.declared.matching.Pair.{Pair}
use Rattle.sqz_alike.specs.Partners.{pair_at}
use Rattle.sqz_alike.specs.Seen.{seen_target}
use Rattle.sqz_changes.specs.declared.leads.Step.{Step}
use Rattle.sqz_changes.specs.Compared.{Compared, is_pair}
use Rattle.sqz_changes.specs.Differences.{slots_to}
use Rattle.sqz_changes.specs.Leads.{AreFirst, pair_if, target_pair}
use Rattle.sqz_changes.specs.Owners.{are_targets, first_leads, first_owners, lead_of, leads_to, owner_by, through}
use Rattle.sqz_changes.proofs.PairLemmas.{is_pair-of}

true-false : true ≡ false → ⊥
true-false e = cc

cases_lt : (a b : ℕ) → (a < b) ⊎ (b ≤ a)
cases_lt zero zero = inr (omega arith)
cases_lt zero (suc b) = inl (omega arith)
cases_lt (suc a) zero = inr (omega arith)
cases_lt (suc a) (suc b) = elim (cases_lt a b) [ inl lt ↦ inl (omega (arith, lt)) | inr le ↦ inr (omega (arith, le)) ]

and-true : (one other : Bool) → one ≡ true → other ≡ true → (one && other) ≡ true
and-true true other e f = f
and-true false other e f = e

is_false : (b : Bool) → (b ≡ true → ⊥) → b ≡ false
is_false true f = absurd (f refl)
is_false false f = refl

option_or-none : {A : Type 0} (o : Option A) → option_or o None ≡ o
option_or-none (Some x) = refl
option_or-none None = refl

-- one more element
find-more : {X : Type 0} (p : X → Bool) (xs : List X) (x : X) (b : Bool) → p x ≡ b
    → find p (xs ++ x ∷ []) ≡ option_or (find p xs) (cond b (Some x) None)
find-more p xs x b e =
    find-append p xs (x ∷ []) ∙ ap (λ (b : Bool). option_or (find p xs) (cond b (Some x) None)) e

module _ (c : Compared) (step : Step) (steps : List Step) (found : List (Option Step)) (are : AreFirst c steps found) where
  abbrev old_target : Option ℕ
  old_target = seen_target c.old (pair_at c.pairs step.pair).old step.slot

  abbrev new_target : Option ℕ
  new_target = seen_target c.new (pair_at c.pairs step.pair).new step.slot

  kept : (pair : Pair) → Contains c.pairs pair → leads_to c pair step ≡ false
      → slice_index_or found pair.old None ≡ find (leads_to c pair) (steps ++ step ∷ [])
  kept pair paired e =
      are pair paired ∙ sym (option_or-none (find (leads_to c pair) steps)) ∙ sym (find-more (leads_to c pair) steps step false e)

  -- a step that leads to no pair
  pub AreFirst-none : target_pair c step ≡ None → AreFirst c (steps ++ step ∷ []) found
  AreFirst-none none pair paired = kept pair paired (by old_target new_target none)
    where
      by : (old new : Option ℕ) → pair_if c.pairs old new ≡ None → are_targets pair old new ≡ false
      by (Some old) (Some new) e = is_false (eqb old pair.old && eqb new pair.new) (λ both.
          let parts = and_parts (eqb old pair.old) (eqb new pair.new) both in
          let is : is_pair c.pairs old new ≡ true =
          ap (λ (n : ℕ). is_pair c.pairs n new) (eqb-true old pair.old parts.0)
          ∙ ap (is_pair c.pairs pair.old) (eqb-true new pair.new parts.1) ∙ is_pair-of c.pairs pair paired in
          some-none (is_pair c.pairs old new) (record { old = old; new = new }) is e)
        where
          some-none : (b : Bool) (p : Pair) → b ≡ true → cond b (Some p) None ≡ None → ⊥
          some-none true p e f = cc
          some-none false p e f = true-false (sym e)
      by (Some old) None e = refl
      by None (Some new) e = refl
      by None None e = refl

  module _ (target : Pair) (is : target_pair c step ≡ Some target)
      (once : (object one other : ℕ) → is_pair c.pairs object one ≡ true → is_pair c.pairs object other ≡ true → one ≡ other) where
    parts_of : (old new : Option ℕ) → pair_if c.pairs old new ≡ Some target
        → (old ≡ Some target.old) × (new ≡ Some target.new) × (is_pair c.pairs target.old target.new ≡ true)
    parts_of (Some old) (Some new) e = by (is_pair c.pairs old new) refl e
      where
        by : (b : Bool) → is_pair c.pairs old new ≡ b → cond b (Some record { old = old; new = new }) None ≡ Some target
            → (Some old ≡ Some target.old) × (Some new ≡ Some target.new) × (is_pair c.pairs target.old target.new ≡ true)
        by true f e =
            let same : record { old = old; new = new } ≡ target = cc in (
              ap (λ (p : Pair). Some p.old) same,
              ap (λ (p : Pair). Some p.new) same,
              sym (ap (λ (p : Pair). is_pair c.pairs p.old p.new) same) ∙ f,
            )
        by false f e = absurd cc
    parts_of (Some old) None e = absurd cc
    parts_of None (Some new) e = absurd cc
    parts_of None None e = absurd cc

    leads : (pair : Pair) → leads_to c pair step ≡ (eqb target.old pair.old && eqb target.new pair.new)
    leads pair =
        let parts = parts_of old_target new_target is in
        ap (λ (o : Option ℕ). are_targets pair o new_target) parts.0 ∙ ap (are_targets pair (Some target.old)) parts.1

    leads-same : (pair : Pair) → Contains c.pairs pair → target.old ≡ pair.old → leads_to c pair step ≡ true
    leads-same pair paired e =
        let parts = parts_of old_target new_target is in
        let new : target.new ≡ pair.new =
        once target.old target.new pair.new parts.2 (ap (λ (n : ℕ). is_pair c.pairs n pair.new) e ∙ is_pair-of c.pairs pair paired) in
        leads pair ∙ and-true (eqb target.old pair.old) (eqb target.new pair.new) (eq-eqb target.old pair.old e) (eq-eqb target.new pair.new new)

    leads-other : (pair : Pair) → (target.old ≡ pair.old → ⊥) → leads_to c pair step ≡ false
    leads-other pair apart =
        leads pair ∙ is_false (eqb target.old pair.old && eqb target.new pair.new)
        (λ both. apart (eqb-true target.old pair.old (and_parts (eqb target.old pair.old) (eqb target.new pair.new) both).0))

    -- the first step to a pair
    pub AreFirst-set : slice_index_or found target.old None ≡ None → target.old < length found
        → AreFirst c (steps ++ step ∷ []) (set found target.old (Some step))
    AreFirst-set free inside pair paired = by (eqb target.old pair.old) refl
      where
        by : (b : Bool) → eqb target.old pair.old ≡ b
            → slice_index_or (set found target.old (Some step)) pair.old None ≡ find (leads_to c pair) (steps ++ step ∷ [])
        by true e =
            let here : target.old ≡ pair.old = eqb-true target.old pair.old e in
            let none = sym (are pair paired) ∙ sym (ap (λ (n : ℕ). slice_index_or found n None) here) ∙ free in
            sym (ap (λ (n : ℕ). slice_index_or (set found target.old (Some step)) n None) here)
            ∙ get_or-set_same found target.old (Some step) None inside
            ∙ sym (ap (λ (o : Option Step). option_or o (Some step)) none)
            ∙ sym (find-more (leads_to c pair) steps step true (leads-same pair paired here))
        by false e =
            let apart = λ (here : target.old ≡ pair.old). true-false (sym (eq-eqb target.old pair.old here) ∙ e) in
            get_or-set_other found target.old pair.old (Some step) None (λ here. apart (sym here))
            ∙ kept pair paired (leads-other pair apart)

    -- a later step to a pair
    pub AreFirst-kept : (first : Step) → slice_index_or found target.old None ≡ Some first → AreFirst c (steps ++ step ∷ []) found
    AreFirst-kept first known pair paired = by (eqb target.old pair.old) refl
      where
        by : (b : Bool) → eqb target.old pair.old ≡ b
            → slice_index_or found pair.old None ≡ find (leads_to c pair) (steps ++ step ∷ [])
        by true e =
            let here : target.old ≡ pair.old = eqb-true target.old pair.old e in
            let some = sym (ap (λ (n : ℕ). slice_index_or found n None) here) ∙ known in
            some
            ∙ sym (ap (λ (o : Option Step). option_or o (Some step)) (sym (are pair paired) ∙ some))
            ∙ sym (find-more (leads_to c pair) steps step true (leads-same pair paired here))
        by false e =
            kept pair paired (leads-other pair (λ here. true-false (sym (eq-eqb target.old pair.old here) ∙ e)))

-- one more slot
pub through-more : (steps : List Step) (index count : ℕ)
    → (steps ++ through index (slots_to count)) ++ record { pair = index; slot = Field count } ∷ [] ≡ steps ++ through index (slots_to (count + 1))
through-more steps index count =
    let one : count + 1 ≡ suc count = omega arith in
    append_assoc steps (through index (slots_to count)) (record { pair = index; slot = Field count } ∷ [])
    ∙ ap (λ (more : List Step). steps ++ more)
    (sym (map-append (λ (slot : Slot). record { pair = index; slot = slot }) (slots_to count) (Field count ∷ []))
    ∙ sym (ap (λ (n : ℕ). through index (slots_to n)) one))

pub length-first_leads : (c : Compared) (count : ℕ) → length (first_leads c count) ≡ count
length-first_leads c zero = refl
length-first_leads c (suc count) =
    let rest = length-first_leads c count in
    omega (arith, rest, length-append (first_leads c count) (lead_of c count ∷ []))

pub length-first_owners : (leads : List (Option Step)) (count : ℕ) → length (first_owners leads count) ≡ count
length-first_owners leads zero = refl
length-first_owners leads (suc count) =
    let rest = length-first_owners leads count in
    omega (arith, rest, length-append (first_owners leads count) (owner_by (first_owners leads count) count (slice_index_or leads count None) ∷ []))

-- each owner is one of the pairs
module _ (leads : List (Option Step)) (count : ℕ) (below : (index : ℕ) → index < count → slice_index_or (first_owners leads count) index 0 < count) where
  owner_by-below : (lead : Option Step) → owner_by (first_owners leads count) count lead ≤ count
  owner_by-below None = omega arith
  owner_by-below (Some step) = by (cases_lt step.pair count)
    where
      by : (step.pair < count) ⊎ (count ≤ step.pair) → slice_index_or (first_owners leads count) step.pair count ≤ count
      by (inl lt) =
          let early = below step.pair lt in
          let same = get_or_default (first_owners leads count) step.pair count 0 (omega (arith, lt, length-first_owners leads count)) in
          omega (arith, early, same)
      by (inr le) =
          let past = get_or_past (first_owners leads count) step.pair count (omega (arith, le, length-first_owners leads count)) in
          omega (arith, past)

  owners-more : (index : ℕ) → index < suc count → slice_index_or (first_owners leads (suc count)) index 0 < suc count
  owners-more index lt = by (cases_lt index count)
    where
      by : (index < count) ⊎ (count ≤ index) → slice_index_or (first_owners leads (suc count)) index 0 < suc count
      by (inl before) =
          let early = below index before in
          let same = get_or_append_left (first_owners leads count) (owner_by (first_owners leads count) count (slice_index_or leads count None) ∷ []) 0 index
          (omega (arith, before, length-first_owners leads count)) in
          omega (arith, early, same)
      by (inr after) =
          let last : index ≡ length (first_owners leads count) = omega (arith, after, lt, length-first_owners leads count) in
          let here = ap (λ (n : ℕ). slice_index_or (first_owners leads (suc count)) n 0) last
          ∙ get_or-append_seam (first_owners leads count) (owner_by (first_owners leads count) count (slice_index_or leads count None)) [] 0 in
          let own = owner_by-below (slice_index_or leads count None) in
          omega (arith, here, own)

pub owners-below : (leads : List (Option Step)) (count index : ℕ) → index < count → slice_index_or (first_owners leads count) index 0 < count
owners-below leads zero index lt = absurd (omega arith)
owners-below leads (suc count) index lt = owners-more leads count (λ early before. owners-below leads count early before) index lt
