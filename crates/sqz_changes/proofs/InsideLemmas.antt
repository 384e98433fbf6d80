-- Changes and steps are of pairs that there are.
-- Serves `changes::changes_between` and `Changes::path_to`.
use Rattle.std.proofs.Common.{◌≡◌, ◌<◌, ◌≤◌, ℕ, zero, suc, Bool, true, false, cond, eqb, List, [], ◌∷◌, length}
use Rattle.std.proofs.Common.{Option, Some, None, refl, arith}
use Rattle.std.specs.Prelude.{slice_index_or, IfSome}
use Rattle.std.specs.List.{All, filter}
use Rattle.std.proofs.lemmas.List.Elements.{All-append, All-cons, All-filter, All-head, All-map, All-nil, All-push, All-tail}
use Rattle.sqz_changes.specs.declared.change.Change.{Change}
use Rattle.sqz_changes.specs.declared.leads.Step.{Step}
use Rattle.sqz_changes.specs.declared.place.Difference.{Difference}
use Rattle.sqz_changes.specs.declared.place.Place.{Place}
use Rattle.sqz_changes.specs.Changes.{quiet_changes, shown_changes, with_difference, with_differences}
use Rattle.sqz_changes.specs.Compared.{Compared}
use Rattle.sqz_changes.specs.Differences.{common_slots, differences, differs, first_places, is_quiet, is_shown, places, places_of}
use Rattle.sqz_changes.specs.Inside.{IsInside, IsStepInside}
use Rattle.sqz_changes.specs.Owners.{first_leads, lead_of, leads, owners}
use Rattle.sqz_changes.proofs.LeadLemmas.{owners-below}
use Rattle.sqz_changes.proofs.PathLemmas.{lead-leads}
use Rattle.sqz_changes.proofs.TallyLemmas.{one_more}

module _ (count owner : ℕ) (difference : Difference) (is_owner : owner < count) (is_first : difference.pair < count) where
  inside-more : (changes : List Change) → All (IsInside count) changes → All (IsInside count) (with_difference owner difference changes)
  inside-more [] are =
      All-cons (IsInside count) (record { owner = owner; first = difference; count = 1 }) []
      (record { owner = is_owner; first = is_first }) (All-nil (IsInside count))
  inside-more (change ∷ changes) are =
      by (eqb change.owner owner) (inside-more changes (All-tail (IsInside count) change changes are))
    where
      by : (b : Bool) → All (IsInside count) (with_difference owner difference changes)
          → All (IsInside count) (cond b (one_more change ∷ changes) (change ∷ with_difference owner difference changes))
      by true rest =
          let is : IsInside count change = All-head (IsInside count) change changes are in
          All-cons (IsInside count) (one_more change) changes (record { owner = is.owner; first = is.first })
          (All-tail (IsInside count) change changes are)
      by false rest =
          All-cons (IsInside count) change (with_difference owner difference changes) (All-head (IsInside count) change changes are) rest

module _ (c : Compared) where
  abbrev IsOfPair : Difference → Type 0
  IsOfPair difference = difference.pair < length c.pairs

  -- the changes that differences of pairs make
  changes-inside : (differences : List Difference) (changes : List Change) → All IsOfPair differences
      → All (IsInside (length c.pairs)) changes → All (IsInside (length c.pairs)) (with_differences (owners c) changes differences)
  changes-inside [] changes of_pairs are = are
  changes-inside (difference ∷ differences) changes of_pairs are =
      let lt : difference.pair < length c.pairs = All-head IsOfPair difference differences of_pairs in
      let owner : ℕ = slice_index_or (owners c) difference.pair 0 in
      changes-inside differences (with_difference owner difference changes) (All-tail IsOfPair difference differences of_pairs)
      (inside-more (length c.pairs) owner difference (owners-below (leads c) (length c.pairs) difference.pair lt) lt changes are)

  places-inside : (count : ℕ) → count ≤ length c.pairs → All IsOfPair (first_places c count)
  places-inside zero le = All-nil IsOfPair
  places-inside (suc count) le =
      All-append IsOfPair (first_places c count) (places_of c count) (places-inside count (omega (arith, le)))
      (All-map IsOfPair (λ (place : Place). record { pair = count; place = place }) (places (common_slots c count))
      (λ index place lt. omega (arith, le)))

  differences-inside : All IsOfPair (differences c)
  differences-inside = All-filter (differs c) IsOfPair (first_places c (length c.pairs)) (places-inside (length c.pairs) (omega arith))

  pub shown-inside : All (IsInside (length c.pairs)) (shown_changes c)
  shown-inside =
      changes-inside (filter (is_shown c) (differences c)) [] (All-filter (is_shown c) IsOfPair (differences c) differences-inside)
      (All-nil (IsInside (length c.pairs)))

  pub quiet-inside : All (IsInside (length c.pairs)) (quiet_changes c)
  quiet-inside =
      changes-inside (filter (is_quiet c) (differences c)) [] (All-filter (is_quiet c) IsOfPair (differences c) differences-inside)
      (All-nil (IsInside (length c.pairs)))

  first_leads-inside : (count : ℕ) → count ≤ length c.pairs → All (λ (lead : Option Step). IfSome lead (IsStepInside (length c.pairs))) (first_leads c count)
  first_leads-inside zero le = All-nil (λ (lead : Option Step). IfSome lead (IsStepInside (length c.pairs)))
  first_leads-inside (suc count) le =
      All-push (λ (lead : Option Step). IfSome lead (IsStepInside (length c.pairs))) (first_leads c count) (lead_of c count)
      (first_leads-inside count (omega (arith, le))) (by (lead_of c count) (λ step e. (lead-leads c count step e).0))
    where
      by : (lead : Option Step) → ((step : Step) → lead ≡ Some step → step.pair < count) → IfSome lead (IsStepInside (length c.pairs))
      by None before = tt
      by (Some step) before =
          let lt = before step refl in
          omega (arith, lt, le)

  pub leads-inside : All (λ (lead : Option Step). IfSome lead (IsStepInside (length c.pairs))) (leads c)
  leads-inside = first_leads-inside (length c.pairs) (omega arith)
