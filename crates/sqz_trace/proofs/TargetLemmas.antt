-- The slots of an object, one after the other, and the objects that they point to.
-- Serves `edge_slots::StrongSlots::next`, `finishing::blacken`, `turns::blacken_listed`,
-- `GreyingLemmas`, `MarkingLemmas` and `StrongLemmas`; `search::Search::find_target` and
-- `::follow` of `sqz_dominators`; `path::path_back` and `slots_between::slot_between` of
-- `sqz_dominators`; `referrers::push_referrers` of `sqz_facts`;
-- `CallLemmas` of `sqz_marks`; `scanning::scan_object` and `GainLemmas` of `sqz_workers`;
-- `targets::mark_targets` and `InOrderLemmas` of `sqz_test_marks`.
use Rattle.std.proofs.Common.{◌≡◌, ◌⊎◌, ℕ, zero, suc, ◌+◌, ◌-◌, ◌<◌, ◌≤◌, cond, List, [], ◌∷◌, ◌++◌}
use Rattle.std.proofs.Common.{slice_index, ltb, Option, Some, None, refl, sym, ap, subst, ◌∙◌, arith, inl, inr}
use Rattle.std.specs.Prelude.{option_and_then, Contains}
use Rattle.std.specs.Iterator.{Yields, YieldsFirst}
use Rattle.std.proofs.lemmas.Bool.{lt-ltb, ltb-true}
use Rattle.std.proofs.lemmas.Option.{cond_some, option_and_then_some}
use Rattle.std.proofs.lemmas.List.{map-id}
use Rattle.std.proofs.lemmas.List.Elements.{Contains-push, Contains-push_cases, Contains-append_left}
use Rattle.std.proofs.lemmas.Iterator.Consumers.{YieldsList-from_first, YieldsList-end}
use Rattle.sqz_object.specs.Chunk.{fields}
use Rattle.sqz_image.specs.declared.slot.Slot.{Slot}
use Rattle.sqz_image.specs.declared.slot.Slot.TheVariants.{ClassWord, Field}
use Rattle.sqz_image.specs.Objects.{Memory, object_count}
use Rattle.sqz_trace.specs.declared.weak.Weak.{Weak}
use Rattle.sqz_trace.specs.Slots.{word_among, field_slots}
use Rattle.sqz_trace.specs.Targets.{named_by, named_among}
use Rattle.sqz_trace.specs.Edges.{OutEdges, out_edges, slots_from, strong_slots, edge_target, IsTargetAmong, HasEdge}
use Rattle.sqz_trace.proofs.SlotLemmas.{field_slots-more}

module _ (memory : Memory) (chunk : List ℕ) where
  -- the word of a field names the object
  abbrev IsNamedIn : ℕ → ℕ → Type 0
  IsNamedIn k index = named_by memory (slice_index (fields chunk) k) ≡ Some index

  -- a field that is a slot names what its word names
  pub named_among-field : (count k index : ℕ) → k < count → IsNamedIn k index → named_among memory count chunk (Field k) ≡ Some index
  named_among-field count k index lt names =
      ap (λ test. option_and_then (named_by memory) (cond test (Some (slice_index (fields chunk) k)) None)) (lt-ltb k count lt) ∙ names

  -- what a field names is named by its word, and the field is a slot
  pub named_among-cases : (count k index : ℕ) → named_among memory count chunk (Field k) ≡ Some index → (k < count) × IsNamedIn k index
  named_among-cases count k index names =
      option_and_then_some (named_by memory) (word_among count chunk (Field k)) index names
      (λ word is its.
      let held = cond_some (ltb k count) (slice_index (fields chunk) k) word is in
      (ltb-true k count held.0, ap (named_by memory) held.1 ∙ its))

  -- a slot is one of more slots
  pub named_among-more : (count more : ℕ) (slot : Slot) (index : ℕ) → count ≤ more → named_among memory count chunk slot ≡ Some index
      → named_among memory more chunk slot ≡ Some index
  named_among-more count more ClassWord index le names = names
  named_among-more count more (Field k) index le names =
      let its = named_among-cases count k index names in
      named_among-field more k index (omega (arith, its.0)) its.1

-- ---- the slots in their order

-- the strong fields from one on: it comes first, and then those after it
pub slots_from-field : (index strong : ℕ) → index < strong
    → slots_from (Field index) strong ≡ Field index ∷ slots_from (Field (index + 1)) strong
slots_from-field index strong lt = field_slots-more index strong lt

-- after the class word all fields are left
pub slots_from-class_word : (strong : ℕ) → slots_from ClassWord strong ≡ ClassWord ∷ slots_from (Field 0) strong
slots_from-class_word strong =
    let all : strong ≡ strong - 0 = omega arith in
    ap (λ (count : ℕ). ClassWord ∷ field_slots 0 count) all

-- the slots of `count` fields have each of these fields
field_slots-has : (first count k : ℕ) → k < count → Contains (field_slots first count) (Field (first + k))
field_slots-has first zero k lt = absurd (omega arith)
field_slots-has first (suc count) zero lt =
    let same : first ≡ first + 0 = omega arith in
    (0, omega arith, ap (λ (i : ℕ). Field i) same)
field_slots-has first (suc count) (suc k) lt =
    let rest = field_slots-has (suc first) count k (omega arith) in
    let same : suc first + k ≡ first + suc k = omega arith in
    subst (λ (i : ℕ). Contains (field_slots first (suc count)) (Field i)) same (suc rest.0, omega (arith, rest.1), rest.2)

-- the strong fields are among the strong slots
pub strong_slots-field : (edges : OutEdges) (field : ℕ) → field < edges.strong → Contains (strong_slots edges) (Field field)
strong_slots-field edges field lt =
    let found = field_slots-has 0 edges.strong field lt in
    let same : 0 + field ≡ field = omega arith in
    let there = subst (λ (i : ℕ). Contains (field_slots 0 edges.strong) (Field i)) same found in
    (suc there.0, omega (arith, there.1), there.2)

-- a slot that points to an object is one of the strong slots
pub strong_slots-has : (edges : OutEdges) (slot : Slot) (index : ℕ) → edge_target edges slot ≡ Some index
    → Contains (strong_slots edges) slot
strong_slots-has edges ClassWord index names = (0, omega arith, refl)
strong_slots-has edges (Field k) index names =
    strong_slots-field edges k (named_among-cases edges.memory edges.words edges.strong k index names).0

-- a loop over slots that ends has gone over all of them
pub slots_at_end : (all begin : List Slot) → begin ≡ all → (yielded left : List Slot)
    → Yields (YieldsFirst (λ rest. rest)) begin yielded left → (answer : Option Slot) (after : List Slot) → answer ≡ None
    → YieldsFirst (λ rest. rest) left answer after → yielded ≡ all
slots_at_end all begin is yielded left went answer after none last =
    sym (map-id yielded)
    ∙ (YieldsList-end (YieldsList-from_first (λ slot. slot) (λ rest. rest) all is) yielded left went answer after none last).0

-- a loop over slots has gone over all slots before the next one
slots_before : (begin yielded left : List Slot) → Yields (YieldsFirst (λ rest. rest)) begin yielded left → begin ≡ yielded ++ left
slots_before begin [] left went = went
slots_before begin (slot ∷ yielded) left went = went.1 ∙ ap (λ rest. slot ∷ rest) (slots_before went.0 yielded left went.2)

pub slots_at : (all begin : List Slot) → begin ≡ all → (yielded left : List Slot)
    → Yields (YieldsFirst (λ rest. rest)) begin yielded left → (slot : Slot) (after : List Slot) → left ≡ slot ∷ after
    → all ≡ yielded ++ slot ∷ after
slots_at all begin is yielded left went slot after next =
    sym is ∙ slots_before begin yielded left went ∙ ap (λ rest. yielded ++ rest) next

-- ---- the objects that slots point to

module _ (edges : OutEdges) (slots : List Slot) where
  -- what one slot more points to is a target of it, or of a slot before
  pub IsTargetAmong-next : (slot : Slot) (index : ℕ) → IsTargetAmong edges (slots ++ slot ∷ []) index
      → IsTargetAmong edges slots index ⊎ (edge_target edges slot ≡ Some index)
  IsTargetAmong-next slot index target =
      elim (Contains-push_cases slots slot target.slot target.listed) [
        | inl before ↦ inl (record { slot = target.slot; listed = before; names = target.names })
        | inr same ↦ inr (ap (edge_target edges) same ∙ target.names)
      ]

  -- a target of a slot before is one of one slot more
  pub IsTargetAmong-before : (slot : Slot) (index : ℕ) → IsTargetAmong edges slots index
      → IsTargetAmong edges (slots ++ slot ∷ []) index
  IsTargetAmong-before slot index target =
      record {
        slot = target.slot;
        listed = Contains-append_left slots (slot ∷ []) target.slot target.listed;
        names = target.names;
      }

  -- and so is the target of this slot
  pub IsTargetAmong-last : (slot : Slot) (index : ℕ) → edge_target edges slot ≡ Some index
      → IsTargetAmong edges (slots ++ slot ∷ []) index
  IsTargetAmong-last slot index names = record { slot = slot; listed = Contains-push slots slot; names = names }

module _ (memory : Memory) (weak : Weak) (object : ℕ) (edges : OutEdges) (its : edges ≡ out_edges memory weak object) where
  -- an object that a strong slot points to has an edge from it
  pub HasEdge-slot : (slot : Slot) (index : ℕ) → object < object_count memory → edge_target edges slot ≡ Some index
      → HasEdge memory weak object index
  HasEdge-slot slot index inside names =
      record {
        inside = inside;
        slot = slot;
        names = subst (λ (it : OutEdges). edge_target it slot ≡ Some index) its names;
      }

  -- so has a target of slots
  pub HasEdge-among : (slots : List Slot) (index : ℕ) → object < object_count memory → IsTargetAmong edges slots index
      → HasEdge memory weak object index
  HasEdge-among slots index inside target = HasEdge-slot target.slot index inside target.names

  -- an edge leads to a target of the strong slots
  pub IsTargetAmong-edge : (slots : List Slot) → slots ≡ strong_slots edges → (index : ℕ) → HasEdge memory weak object index
      → IsTargetAmong edges slots index
  IsTargetAmong-edge slots all index edge =
      let names = subst (λ (it : OutEdges). edge_target it edge.slot ≡ Some index) (sym its) edge.names in
      record {
        slot = edge.slot;
        listed = subst (λ (list : List Slot). Contains list edge.slot) (sym all) (strong_slots-has edges edge.slot index names);
        names = names;
      }
