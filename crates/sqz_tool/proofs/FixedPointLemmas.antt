-- A compacted image is a fixed point of compaction.
-- Serves `laws::compacts_once`, `laws::keeps_objects` and `RunLemmas`.
use Rattle.std.proofs.Common.{◌≡◌, ℕ, ◌+◌, ◌*◌, ◌^◌, ◌<◌, ◌≤◌, Bool, true, false, cond, List, [], length, slice_index, Some, None}
use Rattle.std.proofs.Common.{refl, sym, ap, ◌∙◌, arith, is_some}
use Rattle.std.specs.List.{concat, AllByRecursion}
use Rattle.std.proofs.lemmas.List.{get_or-replicate}
use Rattle.sqz_object.specs.Chunk.{IsChunk, is_object}
use Rattle.sqz_image.specs.File.{AreBytes, renewed}
use Rattle.sqz_image.specs.Objects.{Memory, SavedImage, object_count, find, file_bytes}
use Rattle.sqz_image.specs.Refusals.{Holds}
use Rattle.sqz_image.proofs.SavedLemmas.{IsSaved, IsSaved-read, HasChunks-saved}
use Rattle.sqz_image.proofs.FoundLemmas.{address-find}
use Rattle.sqz_image.proofs.RenewedLemmas.{length-renewed, version-renewed, header_size-renewed, base_address-renewed}
use Rattle.sqz_image.proofs.RenewedLemmas.{data_size-renewed, special_address-renewed, renewed-fits, renewed-twice}
use Rattle.sqz_trace.specs.declared.weak.Weak.{Weak}
use Rattle.sqz_trace.specs.Graph.{is_marked}
use Rattle.sqz_trace.specs.Reachability.{IsReachability}
use Rattle.sqz_trace.specs.Defects.{first_defect, lacks_nil}
use Rattle.sqz_trace.proofs.CopyLemmas.{IsCopy, all_marked, lacks_nil-copy, IsReachability-copy, first_defect-copy}
use Rattle.sqz_regions.specs.Places.{place}
use Rattle.sqz_trace.specs.Live.{live_words}
use Rattle.sqz_trace.proofs.LiveWordLemmas.{live_words-le-words}
use Rattle.sqz_slide.specs.Moved.{new_address, moved_objects}
use Rattle.sqz_slide.proofs.LengthLemmas.{length-moved_objects}
use Rattle.sqz_slide.proofs.SettledLemmas.{live_words-settled, place-settled, moved_objects-settled}
use Rattle.sqz_slide.proofs.MovedShapeLemmas.{place-inside}
use Rattle.sqz_slide.proofs.CompactedLemmas.{new_index, copied_chunks, copied_objects}
use Rattle.sqz_slide.proofs.CopiedLemmas.{IsCopy-compacted}
use Rattle.sqz_slide.proofs.WordLemmas.{moved_objects-lt}
use Rattle.sqz_tool.proofs.CompactionLemmas.{new_special-place}
use Rattle.sqz_tool.specs.Compacted.{new_special, compacted_memory, compacted_header, compacted}
use Rattle.sqz_tool.specs.Verdict.{IsAccepted}
use Rattle.sqz_tool.specs.FixedPoint.{IsFixedPoint}

module _ (image : SavedImage) (weak : Weak) (marks : List Bool) (saved : IsSaved image)
    (reachable : IsReachability image.memory weak marks) (has_nil : lacks_nil image.memory weak ≡ false)
    (sound : first_defect image.memory weak marks ≡ None) where
  -- the image that is left, its memory, and marks on all its objects
  abbrev remainder : SavedImage
  remainder = compacted image weak marks

  abbrev left : Memory
  left = compacted_memory image.memory weak marks

  abbrev all_left : List Bool
  all_left = all_marked left

  -- what the compaction writes into the header
  abbrev new_size : ℕ
  new_size = 4 * live_words image.memory marks

  abbrev special_there : ℕ
  special_there = new_special image.memory marks

  sized : length marks ≡ object_count image.memory
  sized = reachable.reached.sized

  -- ---- what is left is a copy of the live objects

  -- the special objects array goes to its place
  special_place : (index : ℕ) → find image.memory image.memory.special ≡ Some index → special_there ≡ place image.memory marks index
  special_place index found = new_special-place image.memory weak marks index reachable found

  abbrev new : ℕ → ℕ
  new = new_index image.memory weak marks saved.aligned saved.chunks sized

  copy : IsCopy image.memory left marks new
  copy = IsCopy-compacted image.memory weak marks saved.aligned saved.chunks reachable has_nil sound special_there special_place

  -- its chunks are chunks, and none is free
  chunks : AllByRecursion IsChunk left.chunks
  chunks = copied_chunks image.memory weak marks saved.aligned saved.chunks sized

  alone : AllByRecursion (λ chunk. is_object chunk ≡ true) left.chunks
  alone = copied_objects image.memory weak marks saved.aligned saved.chunks sized

  -- there is room for all live objects
  room : image.memory.base + 4 * live_words image.memory marks ≤ 2 ^ 32
  room =
      let within = saved.within in
      omega (arith, live_words-le-words image.memory marks sized)

  words_fit : (k : ℕ) → slice_index (concat left.chunks) k < 2 ^ 32
  words_fit = moved_objects-lt image.memory weak marks saved.aligned saved.chunks sized room saved.data_words

  special_fits : special_there < 2 ^ 32
  special_fits =
      let marked = reachable.reached.complete reachable.start (record { path = []; leads = refl }) in
      let inside = place-inside image.memory weak marks saved.aligned sized saved.chunks room reachable.start marked in
      let at = special_place reachable.start reachable.is_special in
      omega (arith, at, inside)

  -- ---- it can be read back

  -- the words that are left are the live ones
  words_left : length (concat left.chunks) ≡ live_words image.memory marks
  words_left = length-moved_objects image.memory weak marks saved.chunks

  -- they are no more than there were
  words_left-le : length (concat left.chunks) ≤ length (concat image.memory.chunks)
  words_left-le = omega (arith, words_left, live_words-le-words image.memory marks sized)

  -- the object of the special objects array that is left is found at its address
  abbrev special_left : ℕ
  special_left = new reachable.start

  found_left : find left left.special ≡ Some special_left
  found_left = copy.special reachable.start reachable.is_special

  -- an object that is left is marked
  marked_left : (index : ℕ) → index < object_count left → is_marked all_left index ≡ true
  marked_left index lt = get_or-replicate (object_count left) index true false lt

  -- the compacted image can be read back
  pub IsSaved-compacted : IsSaved (compacted image weak marks)
  IsSaved-compacted =
      let stated = saved.header_words 2 in
      let size = saved.data_size in
      let within = saved.within in
      let words = words_left in
      let le = words_left-le in
      record {
        prefix = saved.prefix;
        sized = length-renewed image.header new_size special_there ∙ saved.sized;
        header_words =
            renewed-fits image.header new_size special_there saved.sized saved.header_words (omega arith) special_fits;
        version = version-renewed image.header new_size special_there ∙ saved.version;
        header_size = header_size-renewed image.header new_size special_there ∙ saved.header_size;
        data_size = data_size-renewed image.header new_size special_there saved.sized ∙ ap (λ (count : ℕ). 4 * count) (sym words_left);
        base = saved.base ∙ sym (base_address-renewed image.header new_size special_there);
        special = sym (special_address-renewed image.header new_size special_there saved.sized);
        aligned = saved.aligned;
        within = omega arith;
        data_words = words_fit;
        chunks = chunks;
      }

  -- the special objects array stays where it is
  special_stays : new_special left all_left ≡ left.special
  special_stays =
      let found = address-find left left.special special_left found_left in
      ap (new_address left all_left left.special) found_left
      ∙ ap (λ (test : Bool). cond test (place left all_left special_left) left.special) (marked_left special_left found.0)
      ∙ place-settled left weak chunks alone special_left found.0
      ∙ found.1

  -- all words are live
  words_stay : live_words left all_left ≡ live_words image.memory marks
  words_stay = live_words-settled left weak chunks alone ∙ words_left

  -- an image with these bytes before its header, in this order and from this base on
  abbrev image_of : List ℕ → ℕ → List (List ℕ) → SavedImage
  image_of header special words =
      record {
        prefix = image.prefix;
        header = header;
        memory = record { order = image.memory.order; base = image.memory.base; special = special; chunks = words };
      }

  -- compacting it once more changes nothing
  pub compacted-same : compacted (compacted image weak marks) weak (all_marked (compacted_memory image.memory weak marks))
      ≡ compacted image weak marks
  compacted-same =
      let once = compacted_header image marks in
      let header : compacted_header remainder all_left ≡ once =
      ap (λ (count : ℕ). renewed once (4 * count) (new_special left all_left)) words_stay
      ∙ ap (renewed once new_size) special_stays
      ∙ renewed-twice image.header new_size special_there
      in
      ap (λ (h : List ℕ). image_of h (new_special left all_left) (moved_objects left weak all_left)) header
      ∙ ap (λ (special : ℕ). image_of once special (moved_objects left weak all_left)) special_stays
      ∙ ap (image_of once special_there) (moved_objects-settled left weak chunks alone)

  -- the compacted image's file holds exactly this image
  pub Holds-compacted : Holds (file_bytes (compacted image weak marks)) (compacted image weak marks)
  Holds-compacted = record { parts = HasChunks-saved remainder IsSaved-compacted; special = ap is_some found_left }

  -- its file is accepted
  accepted_left : IsAccepted weak (file_bytes remainder) remainder all_left
  accepted_left =
      record {
        holds = Holds-compacted;
        has_nil = lacks_nil-copy image.memory left weak marks new copy reachable has_nil sound;
        reachable = IsReachability-copy image.memory left weak marks new copy reachable has_nil sound;
        sound = first_defect-copy image.memory left weak marks new copy reachable has_nil sound;
      }

  -- so it is a fixed point
  pub IsFixedPoint-compacted : IsFixedPoint weak (compacted image weak marks)
  IsFixedPoint-compacted =
      record {
        marks = all_left;
        accepted = accepted_left;
        all = marked_left;
        same = ap file_bytes compacted-same;
      }

-- the compaction of a file of bytes that is accepted is a fixed point
pub IsFixedPoint-accepted : (weak : Weak) (file : List ℕ) (image : SavedImage) (marks : List Bool) → AreBytes file
    → IsAccepted weak file image marks → IsFixedPoint weak (compacted image weak marks)
IsFixedPoint-accepted weak file image marks bytes accepted =
    IsFixedPoint-compacted image weak marks (IsSaved-read file image bytes accepted.holds.parts)
    accepted.reachable accepted.has_nil accepted.sound
