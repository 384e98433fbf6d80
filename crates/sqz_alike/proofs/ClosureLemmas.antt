-- All that slots of a found object lead to is found.
-- Serves `ConverseLemmas`.
use Rattle.std.proofs.Common.{◌≡◌, ℕ, zero, suc, ◌+◌, ◌-◌, ◌<◌, List, [], ◌∷◌, ◌++◌, length, get_or, Option, Some, None}
use Rattle.std.proofs.Common.{sym, ap, subst, ◌∙◌, arith, inl, inr, IfSome}
use Rattle.std.specs.Prelude.{fold, filter_map, slice_get}
use Rattle.std.specs.List.{AllByRecursion, cons_option}
use Rattle.std.proofs.lemmas.Bool.{cases_eq, cases_lt}
use Rattle.std.proofs.lemmas.List.{append-nil, append_assoc, length-append, length_push, get_or_append_left}
use Rattle.std.proofs.lemmas.Option.{slice_get-get_or}
use Rattle.sqz_image.specs.declared.slot.Slot.{Slot}
use Rattle.sqz_image.specs.Objects.{object_count, chunk_words}
use Rattle.sqz_trace.specs.declared.live_objects.Live.{Live}
use Rattle.sqz_alike.specs.Seen.{Seen, seen, seen_target}
use Rattle.sqz_alike.specs.Found.{place_of, with_object, with_targets, slots_of, after_visit, visit, found_after, in_order}
use Rattle.sqz_alike.proofs.FoundLemmas.{found_after-length}
use Rattle.sqz_alike.proofs.OrderLemmas.{found_after-all}
use Rattle.sqz_alike.proofs.PlaceLemmas.{place_of-le, place_of-append, place_of-new, with_object-old, with_object-new, with_objects-more}

-- ---- what is found

-- an object is found
pub record Has (found : List ℕ) (object : ℕ) : Type 0 where
  pub before_end : place_of found object < length found

Has-append : (found later : List ℕ) (object : ℕ) → Has found object → Has (found ++ later) object
Has-append found later object has =
    let place = place_of-append found later object has.before_end in
    record { before_end = omega (arith, has.before_end, place, length-append found later) }

Has-with_object : (found : List ℕ) (object : ℕ) → Has (with_object found object) object
Has-with_object found object =
    elim (cases_eq (place_of found object) (length found)) [
      | inl new ↦
          let place : place_of (found ++ object ∷ []) object ≡ length found = place_of-new found [] object new in
          rw (with_object-new found object new) (record { before_end = omega (arith, place, length_push found object) })
      | inr old ↦
          let lt : place_of found object < length found = omega (arith, old, place_of-le found object) in
          rw (with_object-old found object lt) (record { before_end = lt })
    ]

Has-with_objects : (found objects : List ℕ) (object : ℕ) → Has found object → Has (fold with_object found objects) object
Has-with_objects found objects object has =
    let added = with_objects-more found objects in
    subst (λ (all : List ℕ). Has all object) (sym added.1) (Has-append found added.0 object has)

-- ---- one visit

module _ (seen : Seen) (object : ℕ) where
  -- what a slot leads to is found
  abbrev pub LeadsIn : List ℕ → Slot → Type 0
  LeadsIn found slot = IfSome (seen_target seen object slot) (Has found)

  option_in : (target : Option ℕ) (found objects : List ℕ) → IfSome target (Has (fold with_object found (cons_option target objects)))
  option_in None found objects = tt
  option_in (Some next) found objects = Has-with_objects (with_object found next) objects next (Has-with_object found next)

  option_along : (P : List ℕ → Type 0) (target : Option ℕ) (found objects : List ℕ) → ((found : List ℕ) → P (fold with_object found objects))
      → P (fold with_object found (cons_option target objects))
  option_along P None found objects rest = rest found
  option_along P (Some next) found objects rest = rest (with_object found next)

  targets_in : (slots : List Slot) (found : List ℕ) → AllByRecursion (LeadsIn (with_targets seen object found slots)) slots
  targets_in [] found = tt
  targets_in (slot ∷ slots) found =
      let targets = filter_map (seen_target seen object) slots in (
        option_in (seen_target seen object slot) found targets,
        option_along (λ all. AllByRecursion (LeadsIn all) slots) (seen_target seen object slot) found targets (targets_in slots),
      )

  leads_later : (target : Option ℕ) (found later : List ℕ) → IfSome target (Has found) → IfSome target (Has (found ++ later))
  leads_later None found later has = tt
  leads_later (Some next) found later has = Has-append found later next has

  all_later : (found later : List ℕ) (slots : List Slot) → AllByRecursion (LeadsIn found) slots → AllByRecursion (LeadsIn (found ++ later)) slots
  all_later found later [] all = tt
  all_later found later (slot ∷ slots) all =
      (leads_later (seen_target seen object slot) found later all.0, all_later found later slots all.1)

-- ---- the walk

module _ (seen : Seen) where
  after_visit-more : (found : List ℕ) (next : Option ℕ) → (added : List ℕ) × (after_visit seen found next ≡ found ++ added)
  after_visit-more found None = ([], sym (append-nil found))
  after_visit-more found (Some object) =
      with_objects-more found (filter_map (seen_target seen object) (slots_of (chunk_words seen.memory object)))

  pub found_after-more : (count more : ℕ) → (added : List ℕ) × (found_after seen (count + more) ≡ found_after seen count ++ added)
  found_after-more count zero =
      let none : count + 0 ≡ count = omega arith in
      ([], ap (found_after seen) none ∙ sym (append-nil (found_after seen count)))
  found_after-more count (suc more) =
      let next : count + suc more ≡ suc (count + more) = omega arith in
      let rest = found_after-more count more in
      let found = found_after seen (count + more) in
      let last = after_visit-more found (slice_get found (count + more)) in (
        rest.0 ++ last.0,
        ap (found_after seen) next
            ∙ last.1
            ∙ ap (λ (xs : List ℕ). xs ++ last.0) rest.1
            ∙ append_assoc (found_after seen count) rest.0 last.0,
      )

  -- what the slots of the object at a place lead to is found when it was visited
  visit-closed : (found : List ℕ) (place : ℕ) → place < length found
      → AllByRecursion (LeadsIn seen (get_or found place 0) (visit seen found place)) (slots_of (chunk_words seen.memory (get_or found place 0)))
  visit-closed found place inside =
      let object = get_or found place 0 in
      let slots = slots_of (chunk_words seen.memory object) in
      let here : after_visit seen found (Some object) ≡ visit seen found place =
      ap (after_visit seen found) (sym (slice_get-get_or found place 0 inside)) in
      subst (λ (all : List ℕ). AllByRecursion (LeadsIn seen object all) slots) here (targets_in seen object slots found)

module _ (live : Live) where
  abbrev order : List ℕ
  order = in_order (seen live)

  abbrev count : ℕ
  count = object_count live.graph.heap.now

  -- all that a found object leads to is found
  pub in_order-closed : (place : ℕ) → place < length order
      → AllByRecursion (LeadsIn (seen live) (get_or order place 0) order) (slots_of (chunk_words live.graph.heap.now (get_or order place 0)))
  in_order-closed place inside =
      let few = found_after-length live count in
      let first = found_after (seen live) place in
      let early_more = found_after-more (seen live) place (count - place) in
      let split : place + (count - place) ≡ count = omega (arith, inside, few) in
      let early : order ≡ first ++ early_more.0 = ap (found_after (seen live)) (sym split) ∙ early_more.1 in
      let visited : place < length first =
      elim (cases_lt place (length first)) [
        | inl lt ↦ lt
        | inr past ↦
            let all : order ≡ first = ap (found_after (seen live)) (sym split) ∙ found_after-all (seen live) place (count - place) past in
            absurd (omega (arith, past, inside, ap length all))
      ] in
      let same : get_or order place 0 ≡ get_or first place 0 =
      ap (λ (xs : List ℕ). get_or xs place 0) early ∙ get_or_append_left first early_more.0 0 place visited in
      let late_more = found_after-more (seen live) (suc place) (count - suc place) in
      let rest : suc place + (count - suc place) ≡ count = omega (arith, inside, few) in
      let late : order ≡ visit (seen live) first place ++ late_more.0 = ap (found_after (seen live)) (sym rest) ∙ late_more.1 in
      let object = get_or first place 0 in
      let slots = slots_of (chunk_words live.graph.heap.now object) in
      let closed : AllByRecursion (LeadsIn (seen live) object order) slots =
      subst (λ (all : List ℕ). AllByRecursion (LeadsIn (seen live) object all) slots) (sym late)
      (all_later (seen live) object (visit (seen live) first place) late_more.0 slots (visit-closed (seen live) first place visited)) in
      subst (λ (o : ℕ). AllByRecursion (LeadsIn (seen live) o order) (slots_of (chunk_words live.graph.heap.now o))) (sym same) closed
