-- The references to an object from one slot more, and from one object more.
-- Serves `referrers::push_referrers` and `referrers::referrers_of`; the functions of
-- `first_referrers`.
use Rattle.std.proofs.Common.{◌≡◌, ℕ, zero, suc, ◌+◌, ◌<◌, ◌≤◌, nat_eq, Bool, true, false, cond, List, [], ◌∷◌, ◌++◌, map, All}
use Rattle.std.proofs.Common.{Option, Some, None, refl, ap, ◌∙◌, inl, inr, arith}
use Rattle.std.specs.List.{filter, flat_map, range_with_len}
use Rattle.std.specs.Option.{option_eq}
use Rattle.std.proofs.lemmas.Bool.{cases_Bool, ne_eqb}
use Rattle.std.proofs.lemmas.List.{append-nil, map-append}
use Rattle.std.proofs.lemmas.List.Elements.{filter-append, All-nil, All-append, All-map}
use Rattle.sqz_image.specs.declared.slot.Slot.{Slot}
use Rattle.sqz_image.specs.Objects.{Memory, object_count}
use Rattle.sqz_trace.specs.declared.weak.Weak.{Weak}
use Rattle.sqz_trace.specs.Edges.{OutEdges, out_edges, strong_slots, edge_target}
use Rattle.sqz_trace.specs.Graph.{is_marked}
use Rattle.sqz_trace.proofs.EdgeLemmas.{named_among-lt}
use Rattle.sqz_facts.specs.declared.referrers.Referrer.{Referrer}
use Rattle.sqz_facts.specs.Referrers.{points_to, referrers_among, referrers_from, referrers}

module _ (edges : OutEdges) (from to : ℕ) (slots : List Slot) (slot : Slot) where
  abbrev reference : Slot → Referrer
  reference slot = record { object = from; slot = slot }

  next : referrers_among edges from to (slots ++ slot ∷ [])
      ≡ referrers_among edges from to slots ++ referrers_among edges from to (slot ∷ [])
  next =
      ap (map reference) (filter-append (points_to edges to) slots (slot ∷ []))
      ∙ map-append reference (filter (points_to edges to) slots) (filter (points_to edges to) (slot ∷ []))

  -- a slot that does not point to the object is none of them
  pub referrers_among-no : points_to edges to slot ≡ false
      → referrers_among edges from to (slots ++ slot ∷ []) ≡ referrers_among edges from to slots
  referrers_among-no other = next ∙ rw other (append-nil (referrers_among edges from to slots))

  -- one that does is the last of them
  pub referrers_among-yes : points_to edges to slot ≡ true
      → referrers_among edges from to (slots ++ slot ∷ []) ≡ referrers_among edges from to slots ++ reference slot ∷ []
  referrers_among-yes is = next ∙ rw is refl

-- a marked object has its slots that point to the object
pub referrers_from-marked : (memory : Memory) (weak : Weak) (marks : List Bool) (to from : ℕ) → is_marked marks from ≡ true
    → referrers_from memory weak marks to from
    ≡ referrers_among (out_edges memory weak from) from to (strong_slots (out_edges memory weak from))
referrers_from-marked memory weak marks to from marked =
    ap (λ mark. cond mark (referrers_among (out_edges memory weak from) from to (strong_slots (out_edges memory weak from))) []) marked

-- another has none
pub referrers_from-unmarked : (memory : Memory) (weak : Weak) (marks : List Bool) (to from : ℕ) → is_marked marks from ≡ false
    → referrers_from memory weak marks to from ≡ []
referrers_from-unmarked memory weak marks to from unmarked =
    ap (λ mark. cond mark (referrers_among (out_edges memory weak from) from to (strong_slots (out_edges memory weak from))) []) unmarked

-- ---- each is held by an object of the memory

module _ (memory : Memory) (weak : Weak) (marks : List Bool) (to : ℕ) where
  abbrev IsInside : Referrer → Type 0
  IsInside referrer = referrer.object < object_count memory

  referrers_from-inside : (from : ℕ) → from < object_count memory → All IsInside (referrers_from memory weak marks to from)
  referrers_from-inside from lt =
      elim (cases_Bool (is_marked marks from)) [
        | inl marked ↦
            rw (referrers_from-marked memory weak marks to from marked)
            (All-map IsInside (λ slot. record { object = from; slot = slot }) _ (λ k d inside. lt))
        | inr unmarked ↦ rw (referrers_from-unmarked memory weak marks to from unmarked) (All-nil IsInside)
      ]

  range-inside : (from count : ℕ) → from + count ≤ object_count memory
      → All IsInside (flat_map (referrers_from memory weak marks to) (range_with_len from count))
  range-inside from zero le = All-nil IsInside
  range-inside from (suc count) le =
      All-append IsInside _ _ (referrers_from-inside from (omega arith)) (range-inside (from + 1) count (omega arith))

  pub referrers-inside : All IsInside (referrers memory weak marks to)
  referrers-inside = range-inside 0 (object_count memory) (omega arith)

-- ---- no slot points past the objects

module _ (memory : Memory) (weak : Weak) (marks : List Bool) (to : ℕ) (outside : object_count memory ≤ to) where
  is_other : (target : Option ℕ) → ((index : ℕ) → target ≡ Some index → index < object_count memory)
      → option_eq nat_eq target (Some to) ≡ false
  is_other None inside = refl
  is_other (Some index) inside = ne_eqb index to (λ same. let low = inside index refl in omega (arith, low, same))

  points_to-outside : (from : ℕ) (slot : Slot) → points_to (out_edges memory weak from) to slot ≡ false
  points_to-outside from slot =
      let edges = out_edges memory weak from in
      is_other (edge_target edges slot) (named_among-lt memory edges.strong edges.words slot)

  referrers_among-outside : (from : ℕ) (slots : List Slot) → referrers_among (out_edges memory weak from) from to slots ≡ []
  referrers_among-outside from [] = refl
  referrers_among-outside from (slot ∷ slots) =
      rw (points_to-outside from slot) (referrers_among-outside from slots)

  referrers_from-outside : (from : ℕ) → referrers_from memory weak marks to from ≡ []
  referrers_from-outside from =
      elim (cases_Bool (is_marked marks from)) [
        | inl marked ↦
            referrers_from-marked memory weak marks to from marked
            ∙ referrers_among-outside from (strong_slots (out_edges memory weak from))
        | inr unmarked ↦ referrers_from-unmarked memory weak marks to from unmarked
      ]

  range-outside : (from count : ℕ) → flat_map (referrers_from memory weak marks to) (range_with_len from count) ≡ []
  range-outside from zero = refl
  range-outside from (suc count) =
      ap (λ first. first ++ flat_map (referrers_from memory weak marks to) (range_with_len (from + 1) count))
      (referrers_from-outside from)
      ∙ range-outside (from + 1) count

  pub referrers-outside : referrers memory weak marks to ≡ []
  referrers-outside = range-outside 0 (object_count memory)
