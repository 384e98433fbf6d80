-- The objects of a compacted image are the marked objects of the image, moved.
-- Serves `laws::keeps_objects`; `moved_objects::dead_cycle` of `sqz_test_examples`.
use Rattle.std.proofs.Common.{◌≡◌, ◌↔◌, ℕ, ◌%◌, ◌<◌, Bool, true, false, List, length, take, ap, subst, ◌∙◌, arith, inl, inr, None}
use Rattle.std.specs.List.{AllByRecursion}
use Rattle.std.proofs.lemmas.Bool.{cases_lt}
use Rattle.std.proofs.lemmas.List.{length-take, take-take, get_or-take, length-map}
use Rattle.sqz_object.specs.Chunk.{IsChunk}
use Rattle.sqz_image.specs.File.{base_address, image_bytes}
use Rattle.sqz_image.specs.Objects.{Memory, SavedImage, objects, object_count}
use Rattle.sqz_image.specs.Refusals.{HasChunks}
use Rattle.sqz_image.proofs.FoundLemmas.{objects_of-all}
use Rattle.sqz_image.proofs.ReadingLemmas.{sound_header}
use Rattle.sqz_trace.specs.declared.weak.Weak.{Weak}
use Rattle.sqz_trace.specs.Edges.{HasEdge}
use Rattle.sqz_trace.specs.Graph.{is_marked}
use Rattle.sqz_trace.specs.Live.{live}
use Rattle.sqz_trace.specs.Reachability.{IsReachability}
use Rattle.sqz_trace.specs.Defects.{first_defect, lacks_nil}
use Rattle.sqz_trace.proofs.CopyLemmas.{IsCopy, marked_inside, strong_target-copy, HasEdge-copy}
use Rattle.sqz_trace.proofs.CopiedEdgeLemmas.{HasEdge-copied}
use Rattle.sqz_trace.proofs.MarkedLemmas.{marked-inside}
use Rattle.sqz_slide.specs.Moved.{moved_objects}
use Rattle.sqz_slide.proofs.LengthLemmas.{words_after}
use Rattle.sqz_slide.proofs.CompactedLemmas.{copied_objects, inside-copied, words-copied, address-copied}
use Rattle.sqz_slide.proofs.CopiedLemmas.{IsCopy-compacted}
use Rattle.sqz_tool.proofs.CompactionLemmas.{new_special-place}
use Rattle.sqz_tool.specs.Compacted.{new_special, compacted_memory, compacted}
use Rattle.sqz_tool.specs.Correspondence.{new_index, IsMovedObject, HasOldEdge, HasMovedObjects}
use Rattle.sqz_tool.specs.Verdict.{IsAccepted}

-- ---- new indexes

module _ (memory : Memory) (marks : List Bool) (sized : length marks ≡ object_count memory) where
  -- of two marked objects the lower one has the lower new index
  pub new_index-lt : (one other : ℕ) → is_marked marks one ≡ true → one < other → new_index memory marks one < new_index memory marks other
  new_index-lt one other m lt =
      let inside = marked_inside marks one m in
      let below : one < length (take other (objects memory)) = omega (arith, length-take other (objects memory)) in
      let set = get_or-take other marks one _ lt ∙ m in
      let first = marked-inside (take other marks) (take other (objects memory)) one below set in
      let marks_below = take-take one other marks (omega arith) in
      let objects_below = take-take one other (objects memory) (omega arith) in
      rw (marks_below, objects_below) at first

  -- so each new index is that of one marked object
  pub new_index-same : (one other : ℕ) → is_marked marks one ≡ true → is_marked marks other ≡ true
      → new_index memory marks one ≡ new_index memory marks other → one ≡ other
  new_index-same one other m n same =
      elim (cases_lt one other) [
        | inl lt ↦ absurd (omega (arith, new_index-lt one other m lt))
        | inr ge ↦
            elim (cases_lt other one) [
              | inl gt ↦ absurd (omega (arith, new_index-lt other one n gt))
              | inr le ↦ omega arith
            ]
      ]

-- ---- a compacted memory

module _ (memory : Memory) (weak : Weak) (marks : List Bool) (aligned : memory.base % 4 ≡ 0)
    (chunks : AllByRecursion IsChunk memory.chunks) (reachable : IsReachability memory weak marks)
    (has_nil : lacks_nil memory weak ≡ false) (sound : first_defect memory weak marks ≡ None) where
  abbrev after : Memory
  after = compacted_memory memory weak marks

  abbrev new : ℕ → ℕ
  new = new_index memory marks

  abbrev special : ℕ
  special = new_special memory marks

  sized : length marks ≡ object_count memory
  sized = reachable.reached.sized

  copy : IsCopy memory after marks new
  copy =
      IsCopy-compacted memory weak marks aligned chunks reachable has_nil sound special
      (λ index found. new_special-place memory weak marks index reachable found)

  -- there are as many objects as are marked
  count_after : object_count after ≡ length (live memory marks)
  count_after =
      objects_of-all (moved_objects memory weak marks) (copied_objects memory weak marks aligned chunks sized)
      ∙ length-map (live memory marks) (words_after memory weak marks)

  moved_object : (index : ℕ) → is_marked marks index ≡ true → IsMovedObject memory weak marks after index
  moved_object index m =
      record {
        inside = inside-copied memory weak marks aligned chunks sized index m special;
        words = words-copied memory weak marks aligned chunks sized index m special;
        address = address-copied memory weak marks aligned chunks sized index m special;
        targets = λ slot. strong_target-copy memory after weak marks new copy reachable has_nil sound index slot m;
      }

  -- each edge after the move is that of an edge before
  HasOldEdge-after : (from next : ℕ) → is_marked marks from ≡ true → HasEdge after weak (new from) next
      → HasOldEdge memory weak marks from next
  HasOldEdge-after from next m edge =
      let its = HasEdge-copied memory after weak marks new copy reachable has_nil sound from next m edge in
      record { to = its.0; kept = its.1; edge = its.2; same = its.3 }

  -- edges between marked objects stay
  edges_stay : (from to : ℕ) → is_marked marks from ≡ true → is_marked marks to ≡ true
      → HasEdge memory weak from to ↔ HasEdge after weak (new from) (new to)
  edges_stay from to m n = (
    HasEdge-copy memory after weak marks new copy reachable has_nil sound from to m,
    (λ edge.
        let its = HasOldEdge-after from (new to) m edge in
        subst (HasEdge memory weak from) (new_index-same memory marks sized its.to to its.kept n its.same) its.edge),
  )

  pub HasMovedObjects-compacted : HasMovedObjects memory weak marks (compacted_memory memory weak marks)
  HasMovedObjects-compacted =
      record {
        count = count_after;
        each = moved_object;
        onto = λ index lt. let its = copy.onto index lt in record { old = its.0; kept = its.1; same = its.2 };
        ordered = new_index-lt memory marks sized;
        special = copy.special;
        edges = edges_stay;
        onto_edges = HasOldEdge-after;
      }

-- ---- a file that is accepted

-- the first data word of an image that a file holds is aligned
base-aligned : (file : List ℕ) (image : SavedImage) → HasChunks file image → image.memory.base % 4 ≡ 0
base-aligned file image parts =
    let header = sound_header (image_bytes file) image.memory.order parts.sound parts.order in
    ap (λ (base : ℕ). base % 4) (parts.base ∙ ap base_address parts.header) ∙ header.aligned

-- the objects of its compaction are its marked objects, moved
pub HasMovedObjects-accepted : (weak : Weak) (file : List ℕ) (image : SavedImage) (marks : List Bool) → IsAccepted weak file image marks
    → HasMovedObjects image.memory weak marks (compacted image weak marks).memory
HasMovedObjects-accepted weak file image marks accepted =
    HasMovedObjects-compacted image.memory weak marks (base-aligned file image accepted.holds.parts) accepted.holds.parts.chunks.each
    accepted.reachable accepted.has_nil accepted.sound
