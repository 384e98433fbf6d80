-- What a walk finds: live objects, each once.
-- Serves `AlikeLemmas`, `ClosureLemmas` and `ConverseLemmas`.
use Rattle.std.proofs.Common.{◌≡◌, ℕ, zero, suc, ◌<◌, ◌≤◌, Bool, true, if◌then◌else◌, List, [], ◌∷◌, length, Option, Some, None, refl, sym, ap, subst, ◌∙◌, arith, inl, inr, IfSome}
use Rattle.std.specs.Prelude.{fold, filter_map, slice_get, option_to_list}
use Rattle.std.specs.List.{cons_option}
use Rattle.std.proofs.lemmas.Bool.{cases_Bool}
use Rattle.std.proofs.lemmas.Option.{same_Some}
use Rattle.sqz_image.specs.declared.slot.Slot.{Slot}
use Rattle.sqz_image.specs.Objects.{object_count, chunk_words, find}
use Rattle.sqz_trace.specs.declared.live_objects.Live.{Live}
use Rattle.sqz_trace.specs.Edges.{nil}
use Rattle.sqz_trace.specs.Graph.{is_marked}
use Rattle.sqz_trace.specs.Targets.{target}
use Rattle.sqz_alike.specs.Seen.{seen, seen_target, live_or_nil}
use Rattle.sqz_trace.proofs.MarkedLemmas.{is_marked-inside}
use Rattle.sqz_alike.proofs.SeenLemmas.{nil_is_live, special_is_live}
use Rattle.sqz_alike.specs.Found.{with_object, with_targets, slots_of, after_visit, found_after}
use Rattle.sqz_alike.specs.Numbering.{AreSomeOf}
use Rattle.sqz_alike.proofs.NumberingLemmas.{AreSomeOf-none, AreSomeOf-with_object, AreSomeOf-length}

module _ (live : Live) where
  abbrev count : ℕ
  count = object_count live.graph.heap.now

  -- a slot leads to a live object
  live_or_nil-live : (found : Option ℕ) (next : ℕ) → live_or_nil (nil live.graph.heap.now live.graph.weak) live.marks found ≡ Some next
      → is_marked live.marks next ≡ true
  live_or_nil-live None next leads = absurd cc
  live_or_nil-live (Some object) next leads =
      elim (cases_Bool (is_marked live.marks object)) [
        | inl marked ↦
            let same : object ≡ next =
            same_Some _ _ (sym (ap (λ (b : Bool). if b then Some object else nil live.graph.heap.now live.graph.weak) marked) ∙ leads) in
            subst (λ (o : ℕ). is_marked live.marks o ≡ true) same marked
        | inr dead ↦
            let is_nil : nil live.graph.heap.now live.graph.weak ≡ Some next =
            sym (ap (λ (b : Bool). if b then Some object else nil live.graph.heap.now live.graph.weak) dead) ∙ leads in
            nil_is_live live.graph.heap.now live.graph.weak live.marks live.reachable (Some next) (sym is_nil)
      ]

  seen_target-live : (object next : ℕ) (slot : Slot) → seen_target (seen live) object slot ≡ Some next → is_marked live.marks next ≡ true
  seen_target-live object next slot leads = live_or_nil-live (target live.graph.heap.now object slot) next leads

  live-inside : (object : ℕ) → is_marked live.marks object ≡ true → object < count
  live-inside object marked = omega (arith, is_marked-inside live.marks object marked, live.one_each)

  -- what holds of the special objects array, and of what slots lead to, holds of all that is found
  module _ (P : List ℕ → Type 0) (more : (found : List ℕ) (object : ℕ) → is_marked live.marks object ≡ true → P found → P (with_object found object)) where
    along_option : (found objects : List ℕ) (next : Option ℕ) → IfSome next (λ object. is_marked live.marks object ≡ true)
        → ((found : List ℕ) → P found → P (fold with_object found objects)) → P found → P (fold with_object found (cons_option next objects))
    along_option found objects None marked rest holds = rest found holds
    along_option found objects (Some object) marked rest holds = rest (with_object found object) (more found object marked holds)

    target_live : (object : ℕ) (slot : Slot) (next : Option ℕ) → seen_target (seen live) object slot ≡ next
        → IfSome next (λ object. is_marked live.marks object ≡ true)
    target_live object slot None is = tt
    target_live object slot (Some next) is = seen_target-live object next slot is

    along_slots : (object : ℕ) (slots : List Slot) (found : List ℕ) → P found → P (with_targets (seen live) object found slots)
    along_slots object [] found holds = holds
    along_slots object (slot ∷ slots) found holds =
        along_option found (filter_map (seen_target (seen live) object) slots) (seen_target (seen live) object slot)
        (target_live object slot (seen_target (seen live) object slot) refl)
        (λ more_found. along_slots object slots more_found) holds

    along_visit : (found : List ℕ) (next : Option ℕ) → P found → P (after_visit (seen live) found next)
    along_visit found None holds = holds
    along_visit found (Some object) holds = along_slots object (slots_of (chunk_words live.graph.heap.now object)) found holds

    along_special : (special : Option ℕ) → find live.graph.heap.now live.graph.heap.now.special ≡ special → P [] → P (option_to_list special)
    along_special None is none = none
    along_special (Some object) is none =
        more [] object (special_is_live live.graph.heap.now live.graph.weak live.marks live.reachable object is) none

    pub found_after-along : P [] → (steps : ℕ) → P (found_after (seen live) steps)
    found_after-along none zero = along_special (find live.graph.heap.now live.graph.heap.now.special) refl none
    found_after-along none (suc steps) =
        along_visit (found_after (seen live) steps) (slice_get (found_after (seen live) steps) steps) (found_after-along none steps)

  -- each object is found once
  pub found_after-once : (steps : ℕ) → AreSomeOf count (found_after (seen live) steps)
  found_after-once =
      found_after-along (AreSomeOf count) (λ found object marked is. AreSomeOf-with_object count found is object (live-inside object marked))
      (AreSomeOf-none count)

  pub found_after-length : (steps : ℕ) → length (found_after (seen live) steps) ≤ count
  found_after-length steps = AreSomeOf-length count (found_after (seen live) steps) (found_after-once steps)
