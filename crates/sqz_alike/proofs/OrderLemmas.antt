-- The walk, one visit after another.
-- Serves `hashing::image::digest`, `AlikeLemmas` and `ClosureLemmas`.
use Rattle.std.proofs.Common.{◌≡◌, ℕ, zero, suc, ◌+◌, ◌-◌, ◌<◌, ◌≤◌, Some, List, [], ◌∷◌, ◌++◌, length, take, slice_index_or, sym, ap, subst, ◌∙◌, arith, add-one}
use Rattle.std.specs.Prelude.{filter_map, flat_map}
use Rattle.std.proofs.lemmas.Grind.{flat_map-append}
use Rattle.std.proofs.lemmas.List.{append-nil, append_assoc, length-append, take_all, take_more, take-append-le}
use Rattle.std.proofs.lemmas.Option.{slice_get-get_or, slice_get_past}
use Rattle.sha2.specs.declared.Sha256.{Sha256}
use Rattle.sha2.specs.Hashers.{Holds256}
use Rattle.sqz_image.specs.Objects.{object_count, chunk_words}
use Rattle.sqz_trace.specs.declared.live_objects.Live.{Live}
use Rattle.sqz_alike.specs.Seen.{Seen, seen, seen_target}
use Rattle.sqz_alike.specs.declared.hashing.walk.Walk.{Walk}
use Rattle.sqz_alike.specs.Found.{slots_of, after_visit, visit, found_after, in_order}
use Rattle.sqz_alike.specs.Hashing.{HashesObject, IsHashed}
use Rattle.sqz_alike.specs.Numbering.{NumbersFound}
use Rattle.sqz_alike.specs.Written.{object_bytes, written}
use Rattle.sqz_alike.proofs.NumberingLemmas.{AreSomeOf-length}
use Rattle.sqz_alike.proofs.PlaceLemmas.{with_objects-more}

-- ---- visits

module _ (seen : Seen) where
  -- there is nothing to visit after the last object
  visit-past : (found : List ℕ) (place : ℕ) → length found ≤ place → visit seen found place ≡ found
  visit-past found place past = ap (after_visit seen found) (slice_get_past found place past)

  -- once all that is found is visited, nothing more is found
  pub found_after-all : (count more : ℕ) → length (found_after seen count) ≤ count → found_after seen (count + more) ≡ found_after seen count
  found_after-all count zero past =
      let none : count + 0 ≡ count = omega arith in
      ap (found_after seen) none
  found_after-all count (suc more) past =
      let next : count + suc more ≡ suc (count + more) = omega arith in
      let rest = found_after-all count more past in
      ap (found_after seen) next
      ∙ ap (λ (found : List ℕ). visit seen found (count + more)) rest
      ∙ visit-past (found_after seen count) (count + more) (omega (arith, past))

-- ---- the walk

module _ (live : Live) where
  -- no more objects are found than there are
  pub NumbersFound-length : (walk : Walk) → NumbersFound live walk → length walk.found.items ≤ object_count live.graph.heap.now
  NumbersFound-length walk is =
      let few = AreSomeOf-length (length walk.places.items) walk.found.items is.numbering.once in
      omega (arith, few, is.sized)

  -- one visit more
  pub IsHashed-more : (count object : ℕ) (old new : Walk) (before after : Sha256) → IsHashed live count old before
      → count < length old.found.items → object ≡ slice_index_or old.found.items count 0 → NumbersFound live new
      → HashesObject (seen live) object old.found.items new.found.items before after → IsHashed live (count + 1) new after
  IsHashed-more count object old new before after is inside at walk hashes =
      let here : after_visit (seen live) old.found.items (Some object) ≡ visit (seen live) old.found.items count =
      ap (after_visit (seen live) old.found.items)
      (ap (λ (n : ℕ). Some n) at ∙ sym (slice_get-get_or old.found.items count 0 inside)) in
      let added =
      with_objects-more old.found.items (filter_map (seen_target (seen live) object) (slots_of (chunk_words (seen live).memory object))) in
      let grown : new.found.items ≡ old.found.items ++ added.0 = hashes.found ∙ added.1 in
      record {
        kept = walk;
        found =
            hashes.found
            ∙ here
            ∙ ap (λ (found : List ℕ). visit (seen live) found count) is.found
            ∙ sym (ap (found_after (seen live)) (add-one count));
        within = omega (arith, ap length grown, length-append old.found.items added.0);
        holds = λ later.
            let bytes = object_bytes (seen live) (new.found.items ++ later) in
            let whole : old.found.items ++ (added.0 ++ later) ≡ new.found.items ++ later =
            sym (append_assoc old.found.items added.0 later) ∙ ap (λ (found : List ℕ). found ++ later) (sym grown) in
            let so_far : Holds256 before (flat_map bytes (take count old.found.items)) =
            subst (λ (found : List ℕ). Holds256 before (flat_map (object_bytes (seen live) found) (take count old.found.items))) whole
            (is.holds (added.0 ++ later)) in
            let front : take (count + 1) new.found.items ≡ take count old.found.items ++ object ∷ [] =
            ap (take (count + 1)) grown
            ∙ take-append-le (count + 1) old.found.items added.0 (omega arith)
            ∙ take_more old.found.items count 0 inside
            ∙ ap (λ (n : ℕ). take count old.found.items ++ n ∷ []) (sym at) in
            subst (Holds256 after)
            (sym
            (ap (flat_map bytes) front
            ∙ flat_map-append bytes (take count old.found.items) (object ∷ [])
            ∙ ap (λ (xs : List ℕ). flat_map bytes (take count old.found.items) ++ xs) (append-nil (bytes object))))
            ((hashes.taken later).taken (flat_map bytes (take count old.found.items)) so_far);
      }

  -- when all that is found is visited, the image is hashed
  pub IsHashed-all : (count : ℕ) (walk : Walk) (hasher : Sha256) → IsHashed live count walk hasher → length walk.found.items ≤ count
      → Holds256 hasher (written (seen live))
  IsHashed-all count walk hasher is past =
      let few = NumbersFound-length walk is.kept in
      let more : object_count live.graph.heap.now ≡ count + (object_count live.graph.heap.now - count) = omega (arith, few, is.within) in
      let all : in_order (seen live) ≡ walk.found.items =
      ap (found_after (seen live)) more
      ∙ found_after-all (seen live) count (object_count live.graph.heap.now - count) (omega (arith, past, ap length is.found))
      ∙ sym is.found in
      let holds : Holds256 hasher (flat_map (object_bytes (seen live) walk.found.items) walk.found.items) =
      subst (λ (found : List ℕ). Holds256 hasher (flat_map (object_bytes (seen live) found) walk.found.items))
      (append-nil walk.found.items)
      (subst (λ (front : List ℕ). Holds256 hasher (flat_map (object_bytes (seen live) (walk.found.items ++ [])) front))
      (take_all count walk.found.items past) (is.holds [])) in
      subst (λ (found : List ℕ). Holds256 hasher (flat_map (object_bytes (seen live) found) found)) (sym all) holds
