-- What the calls on the mark table owe at their steps, from what contracts see of the table and of
-- the pass.
-- Serves `table::MarkTable::blacken`, `::claim_of`, `::grow`, `::join_into`, `::look` and
-- `::part`.
use Rattle.std.proofs.Common.{◌≡◌, ℕ, ◌+◌, ◌%◌, ◌^◌, ◌<◌, ◌≤◌, max, [], length, sym, ap, subst, ◌∙◌, arith}
use mathlib.Core.Option.{none}
use Rattle.std.specs.Prelude.{Some}
use Rattle.atomic_table.specs.Table.{Me, step, Allows, Splits, Joins}
use Rattle.atomic_table.specs.Seated.{TableId}
use Rattle.sqz_image.specs.declared.slot.Slot.{Slot}
use Rattle.sqz_image.specs.Objects.{objects, object_count, chunk_words, find}
use Rattle.sqz_image.proofs.ObjectLemmas.{find_in-lt}
use Rattle.sqz_trace.specs.declared.weak.Weak.{Weak}
use Rattle.sqz_trace.specs.Edges.{OutEdges, edge_target, HasEdge}
use Rattle.sqz_trace.proofs.EdgeLemmas.{named_among-lt}
use Rattle.sqz_trace.proofs.TargetLemmas.{HasEdge-slot}
use Rattle.sqz_regions.specs.Regions.{Regioning, region_at, region_count}
use Rattle.sqz_marks.specs.declared.view.View.{View}
use Rattle.sqz_marks.specs.Core.{Marking, times, HasWon, HasSeen, kept_of, part_of, joined, spent}
use Rattle.sqz_marks.specs.Table.{SharedMarks, HeldPass, IsPassOf, AreEdgesOfSeen, IsKept, start_of, marking_in, Looked}
use Rattle.sqz_marks.specs.Table.{Claimed, Counted, Blackened, Weighed}
use Rattle.sqz_marks.proofs.StepLemmas.{look_allowed, claim_allowed, count_allowed, blacken_allowed, split_allowed}
use Rattle.sqz_marks.proofs.StepLemmas.{join_allowed, weigh_allowed}

-- what a call owes before a step on a word: the seat is of the table, the word is one of the table's, and the rule allows the step
module _ (marking : Marking) (id seat : TableId) (number : ℕ) {S : Type 0} (me : Me S View) where
  abbrev pub Owes : ℕ → (ℕ → ℕ) → (ℕ → Me S View → Type 0) → Type 0
  Owes word becomes tells =
      (seat ≡ id) × (word < id.words) × Allows (IsKept marking {S = S}) id.slots number me word becomes tells

module _
    (marks : SharedMarks)
    (pass : HeldPass)
    (of : IsPassOf marks pass)
    (id : TableId)
    (key heap : Regioning)
    (key_weak weak : Weak)
    (key_workers workers pass_workers : ℕ)
    (is_marks : record { table = id; heap = heap; weak = weak; workers = workers } ≡ marks)
    (keyed : key ≡ heap)
    (keyed_weak : key_weak ≡ weak)
    (words : id.words ≡ object_count heap.memory + region_count heap.cut heap.memory)
    (seat : TableId)
    (number : ℕ)
    {S : Type 0}
    (me : Me S View)
    (is_pass : record { table = seat; workers = pass_workers; view = me.0 } ≡ pass)
  where
    abbrev marking : Marking
    marking = marking_in key key_weak key_workers

    same_table : seat ≡ id
    same_table = ap (λ (p : HeldPass). p.table) is_pass ∙ of.0 ∙ sym (ap (λ (m : SharedMarks). m.table) is_marks)

    same_heap : key ≡ marks.heap
    same_heap = keyed ∙ ap (λ (m : SharedMarks). m.heap) is_marks

    same_weak : key_weak ≡ marks.weak
    same_weak = keyed_weak ∙ ap (λ (m : SharedMarks). m.weak) is_marks

    -- an edge for the table is one for the rule
    keyed_edge : (from to : ℕ) → HasEdge marks.heap.memory marks.weak from to → HasEdge key.memory key_weak from to
    keyed_edge from to edge =
        subst (λ (h : Regioning). HasEdge h.memory key_weak from to) (sym same_heap)
        (subst (λ (w : Weak). HasEdge marks.heap.memory w from to) (sym same_weak) edge)

    table_edge : (from to : ℕ) → HasEdge key.memory key_weak from to → HasEdge marks.heap.memory marks.weak from to
    table_edge from to edge =
        subst (λ (w : Weak). HasEdge marks.heap.memory w from to) same_weak
        (subst (λ (h : Regioning). HasEdge h.memory key_weak from to) same_heap edge)

    same_view : me.0 ≡ pass.view
    same_view = ap (λ (p : HeldPass). p.view) is_pass

    module _ (object : ℕ) (inside : object < object_count marks.heap.memory) where
      in_words : object < id.words
      in_words = omega (arith, words, inside, ap (λ (m : SharedMarks). object_count m.heap.memory) is_marks)

      in_key : object < object_count key.memory
      in_key = subst (λ (h : Regioning). object < object_count h.memory) (sym same_heap) inside

      pub look_owes : 1 ≤ me.0.weight
          → Owes (marking_in key key_weak key_workers) id seat number me object (λ n. n) (Looked (step id.slots object 0 0 none) me)
      look_owes weight = (same_table, in_words, look_allowed marking id.slots number me object in_key weight)

      pub blacken_owes : HasSeen pass.view object
          → ((target : ℕ) → HasEdge marks.heap.memory marks.weak object target → HasSeen pass.view target)
          → Owes (marking_in key key_weak key_workers) id seat number me object (λ n. max n 2)
          (Blackened (step id.slots object 2 0 none) me)
      blacken_owes seen targets = (
        same_table,
        in_words,
        blacken_allowed marking id.slots number me object in_key
            (subst (λ (v : View). HasSeen v object) (sym same_view) seen)
            (λ target edge. subst (λ (v : View). HasSeen v target) (sym same_view)
            (targets target (table_edge object target edge))),
      )

    -- a claim of the object that a strong slot points to
    module _ (edges : OutEdges) (slot : Slot) (object : ℕ) (seen : AreEdgesOfSeen marks.heap.memory marks.weak pass.view edges)
        (names : edge_target edges slot ≡ Some object) where
      is_inside : object < object_count marks.heap.memory
      is_inside =
          subst (λ (it : OutEdges). object < object_count it.memory) seen.its
          (named_among-lt edges.memory edges.strong edges.words slot object names)

      pub claim_owes : Owes (marking_in key key_weak key_workers) id seat number me object (λ n. max n 1)
          (Claimed (step id.slots object 1 0 none) me)
      claim_owes = (
        same_table,
        in_words object is_inside,
        claim_allowed marking id.slots number me seen.object object (in_key object is_inside)
            (subst (λ (v : View). HasSeen v seen.object) (sym same_view) seen.seen)
            (keyed_edge seen.object object
            (HasEdge-slot marks.heap.memory marks.weak seen.object edges seen.its slot object seen.inside names)),
      )

-- a count
module _
    (id : TableId)
    (key heap self : Regioning)
    (key_weak : Weak)
    (key_workers : ℕ)
    (keyed : key ≡ heap)
    (is_heap : heap ≡ self)
    (words : id.words ≡ object_count heap.memory + region_count heap.cut heap.memory)
    (seat : TableId)
    (same : seat ≡ id)
    (number : ℕ)
    {S : Type 0}
    (me : Me S View)
    (object region : ℕ)
  where
    keyed_self : self ≡ key
    keyed_self = sym (keyed ∙ is_heap)

    pub count_owes : (word length_of : ℕ) → word ≡ object_count self.memory + region → region ≡ region_at self.cut self.memory object
        → region < region_count self.cut self.memory → length_of ≡ length (chunk_words self.memory object)
        → HasWon me.0 object → times object me.0.counted ≡ 0
        → Owes (marking_in key key_weak key_workers) id seat number me word (λ n. (n + length_of) % 2 ^ 64)
        (Counted object (step id.slots word length_of 0 none) me)
    count_owes word length_of at is_region inside long won new = (
      same,
      (let sizes = ap (λ (h : Regioning). object_count h.memory + region_count h.cut h.memory) is_heap in
          omega (arith, words, at, inside, sizes)),
      subst (λ w. IsAllowed w length_of)
          (sym (at ∙ ap (λ r. object_count self.memory + r) is_region
          ∙ ap (λ (h : Regioning). object_count h.memory + region_at h.cut h.memory object) keyed_self))
          (subst (λ n. IsAllowed place n)
          (sym (long ∙ ap (λ (h : Regioning). length (chunk_words h.memory object)) keyed_self))
          (count_allowed marking id.slots number me object won new
          (subst (λ (h : Regioning). region_at h.cut h.memory object < region_count h.cut h.memory) keyed_self
          (subst (λ r. r < region_count self.cut self.memory) is_region inside)))),
    )
      where
        marking : Marking
        marking = marking_in key key_weak key_workers

        -- this many words may be added to a word
        IsAllowed : ℕ → ℕ → Type 0
        IsAllowed w words =
            Allows (IsKept marking {S = S}) id.slots number me w (λ n. (n + words) % 2 ^ 64)
            (Counted object (step id.slots w words 0 none) me)

        place : ℕ
        place = object_count key.memory + region_at key.cut key.memory object

-- splits and joins load the first word, and there is one
module _
    (id : TableId)
    (key heap : Regioning)
    (key_weak : Weak)
    (key_workers : ℕ)
    (words : id.words ≡ object_count heap.memory + region_count heap.cut heap.memory)
    (special : find heap.memory heap.memory.special ≡ Some (start_of heap.memory))
    (seat : TableId)
    (same : seat ≡ id)
    (number : ℕ)
    {S : Type 0}
    (me : Me S View)
  where
    first_word : 0 < id.words
    first_word =
        let lt = find_in-lt heap.memory.base (objects heap.memory) heap.memory.special (start_of heap.memory) special in
        omega (arith, lt, words)

    pub split_owes : (weight : ℕ) → 1 ≤ weight → weight < me.0.weight
        → (seat ≡ id) × (0 < id.words)
        × Splits (IsKept (marking_in key key_weak key_workers) {S = S}) number me.0 (kept_of weight me.0) (part_of weight)
    split_owes weight positive below =
        (same, first_word, split_allowed (marking_in key key_weak key_workers) number me.0 weight positive below)

    pub join_owes : (other : TableId) → other ≡ id → (other_number : ℕ) (theirs : Me S View) → theirs.1 ≡ [] → 1 ≤ theirs.0.weight
        → (seat ≡ id) × (other ≡ id) × (theirs.1 ≡ []) × (0 < id.words)
        × Joins (IsKept (marking_in key key_weak key_workers) {S = S}) number me.0 other_number theirs.0 (joined me.0 theirs.0) spent
    join_owes other same_other other_number theirs holds weight = (
      same,
      same_other,
      holds,
      first_word,
      join_allowed (marking_in key key_weak key_workers) number me.0 other_number theirs.0 weight,
    )

    pub weigh_owes : Owes (marking_in key key_weak key_workers) id seat number me 0 (λ n. n) (Weighed (step id.slots 0 0 0 none) me)
    weigh_owes = (same, first_word, weigh_allowed (marking_in key key_weak key_workers) id.slots number me)
