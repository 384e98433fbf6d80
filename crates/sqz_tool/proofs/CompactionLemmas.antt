-- What is written of an image, and its numbers.
-- Serves `compaction::move_live_objects`, `CorrespondenceLemmas` and `FixedPointLemmas`.
use Rattle.std.proofs.Common.{◌≡◌, ℕ, ◌*◌, ◌^◌, ◌<◌, Bool, true, List, [], ◌++◌, length, slice_index_or, Option, Some}
use Rattle.std.proofs.Common.{None, refl, sym, ap, subst, ◌∙◌}
use Rattle.std.specs.List.{concat, AllByRecursion}
use Rattle.std.proofs.lemmas.Option.{same_Some}
use Rattle.sqz_object.specs.Chunk.{IsChunk}
use Rattle.sqz_object.specs.Bytes.{spelling_of}
use Rattle.sqz_image.specs.File.{renewed, file_with}
use Rattle.sqz_image.specs.Objects.{Memory, SavedImage, object_count, find, file_bytes}
use Rattle.sqz_trace.specs.declared.weak.Weak.{Weak}
use Rattle.sqz_trace.specs.Reachability.{IsReachability}
use Rattle.sqz_trace.specs.Graph.{is_marked}
use Rattle.sqz_regions.specs.Places.{place}
use Rattle.sqz_trace.specs.Live.{live_words}
use Rattle.sqz_regions.specs.Bases.{ArePlacesOf}
use Rattle.sqz_slide.specs.Moved.{new_address, moved_objects}
use Rattle.sqz_slide.proofs.LengthLemmas.{length-moved_objects}
use Rattle.sqz_tool.specs.declared.summary.Summary.{Summary}
use Rattle.sqz_tool.specs.Compacted.{new_special, compacted_header, compacted}

module _ (memory : Memory) (weak : Weak) (marks : List Bool) (special_object : ℕ) (reachable : IsReachability memory weak marks)
    (found : find memory memory.special ≡ Some special_object) where
  -- the special objects array is marked
  special_is_marked : is_marked marks special_object ≡ true
  special_is_marked =
      let same : reachable.start ≡ special_object = same_Some _ _ (sym reachable.is_special ∙ found) in
      let reached = reachable.reached.complete reachable.start (record { path = []; leads = refl }) in
      subst (λ (i : ℕ). is_marked marks i ≡ true) same reached

  -- so its new address is its place
  pub new_special-place : new_special memory marks ≡ place memory marks special_object
  new_special-place = ap (new_address memory marks memory.special) found ∙ rw special_is_marked refl

  -- and that is what a list of places has for it
  pub place_of_special : (places : List (Option ℕ)) → ArePlacesOf memory marks places → special_object < object_count memory
      → slice_index_or places special_object None ≡ Some (place memory marks special_object)
  place_of_special places are inside = are.each special_object inside ∙ rw special_is_marked refl

module _ (image : SavedImage) (weak : Weak) (marks : List Bool) (pieces : List (List ℕ))
    (chunks : AllByRecursion IsChunk image.memory.chunks)
    (words : concat pieces ≡ concat (moved_objects image.memory weak marks)) where
  -- the pieces have as many words as the live objects
  length-pieces : length (concat pieces) ≡ live_words image.memory marks
  length-pieces = ap length words ∙ length-moved_objects image.memory weak marks chunks

  -- the pieces are what the definition writes
  pub bytes_are : (special special_object : ℕ) → IsReachability image.memory weak marks
      → find image.memory image.memory.special ≡ Some special_object → special ≡ place image.memory marks special_object
      → file_with image.memory.order image.prefix image.header special pieces ≡ file_bytes (compacted image weak marks)
  bytes_are special special_object reachable found special_is =
      let order = image.memory.order in
      let address : special ≡ new_special image.memory marks =
      special_is ∙ sym (new_special-place image.memory weak marks special_object reachable found)
      in
      let header : renewed image.header (4 * length (concat pieces)) special ≡ compacted_header image marks =
      ap (λ (n : ℕ). renewed image.header (4 * n) special) length-pieces
      ∙ ap (renewed image.header (4 * live_words image.memory marks)) address
      in
      ap (λ (h : List ℕ). image.prefix ++ spelling_of order (h ++ concat pieces)) header
      ∙ ap (λ (d : List ℕ). image.prefix ++ spelling_of order (compacted_header image marks ++ d)) words

  -- the pieces have few words
  pub few_words : live_words image.memory marks < 2 ^ 30 → length (concat pieces) < 2 ^ 30
  few_words few = rw length-pieces few

-- the same numbers make the same summary
pub same_summary : {a b c d e f g h : ℕ} → a ≡ b → c ≡ d → e ≡ f → g ≡ h
    → let one : Summary = record { objects = a; kept = c; data_before = e; data_after = g } in
    one ≡ record { objects = b; kept = d; data_before = f; data_after = h }
same_summary p q r s = cc
