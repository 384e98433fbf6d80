-- The pieces of regions, one region after the other.
-- Serves `mover::Mover::piece_of`, `shared_regions::SharedRegions::pieces_of_worker`,
-- `sliding::concat_shares` and `sliding::slide`.
use Rattle.std.proofs.Common.{◌≡◌, ℕ, zero, suc, ◌+◌, ◌-◌, ◌≤◌, Bool, eqb, List, [], ◌∷◌, ◌++◌, map, filter, length}
use Rattle.std.proofs.Common.{take, slice_index_or, sym, ap, subst, refl, ◌∙◌, arith, add-one, inl, inr}
use Rattle.std.specs.List.{concat}
use Rattle.std.proofs.lemmas.Bool.{cases_lt}
use Rattle.std.proofs.lemmas.List.{length-append, map-append, append_cancel_left, take_all, take_more}
use Rattle.std.proofs.lemmas.List.{get_or_append_left, get_or-append_right}
use Rattle.std.proofs.lemmas.List.Folds.{concat-append}
use Rattle.sqz_object.proofs.PartitionLemmas.{concat-push}
use Rattle.sqz_image.specs.Objects.{Memory, Object, objects, object_count}
use Rattle.sqz_trace.specs.declared.weak.Weak.{Weak}
use Rattle.sqz_trace.specs.Live.{marked, live}
use Rattle.sqz_regions.specs.Regions.{Regioning, region_of, objects_before}
use Rattle.sqz_regions.proofs.RisingLemmas.{live_below-next_region}
use Rattle.sqz_regions.proofs.RegionLemmas.{objects_before-zero}
use Rattle.sqz_slide.specs.Moved.{moved_objects}
use Rattle.sqz_slide.specs.Pieces.{moved_in, ArePiecesOf}
use Rattle.sqz_slide.proofs.MovedLemmas.{words_after, moved_below, moved_below_none, moved_below_all}

module _ (regions : Regioning) (weak : Weak) (marks : List Bool) where
  -- the words of the live objects of the regions before one
  abbrev moved_before : ℕ → List ℕ
  moved_before region = moved_below regions.memory weak marks (objects_before regions.cut regions.memory region)

  -- after the regions before one come the words of that one
  moved_before-next : (region : ℕ) → moved_before (region + 1) ≡ moved_before region ++ moved_in regions weak marks region
  unfolding moved_below
  moved_before-next region =
      let memory = regions.memory in
      let here : ℕ = objects_before regions.cut memory region in
      let below : List Object = marked (take here marks) (take here (objects memory)) in
      let inside : List Object = filter (λ object. eqb (region_of regions.cut object) region) (live memory marks) in
      ap (λ (live : List Object). concat (map (words_after memory weak marks) live))
      (live_below-next_region regions.cut memory marks region)
      ∙ ap concat (map-append (words_after memory weak marks) below inside)
      ∙ concat-append (map (words_after memory weak marks) below) (map (words_after memory weak marks) inside)

  -- the words of a region are those between its first object and the next region's
  pub moved_in-between : (memory : Memory) (region from to : ℕ) (words : List ℕ) → regions.memory ≡ memory
      → from ≡ objects_before regions.cut regions.memory region → to ≡ objects_before regions.cut regions.memory (region + 1)
      → moved_below memory weak marks from ++ words ≡ moved_below memory weak marks to → words ≡ moved_in regions weak marks region
  moved_in-between memory region from to words same from_is to_is h =
      let between =
      subst (λ (memory : Memory). moved_below memory weak marks from ++ words ≡ moved_below memory weak marks to) (sym same) h in
      let first = ap (λ (index : ℕ). moved_below regions.memory weak marks index ++ words) from_is in
      let end = ap (moved_below regions.memory weak marks) to_is in
      append_cancel_left (moved_before region) words (moved_in regions weak marks region)
      (sym first ∙ between ∙ end ∙ moved_before-next region)

  -- ---- one region after the other

  -- no piece yet
  pub no_piece_yet : (from : ℕ) → ArePiecesOf regions weak marks from from []
  no_piece_yet from = record { sized = omega arith; each = λ piece lt. absurd (omega arith) }

  -- pieces, and those of the regions after them
  pub pieces_joined : (from middle to : ℕ) (front back : List (List ℕ)) → ArePiecesOf regions weak marks from middle front
      → ArePiecesOf regions weak marks middle to back → ArePiecesOf regions weak marks from to (front ++ back)
  pieces_joined from middle to front back f b =
      let size = length-append front back in
      record {
        sized = omega (arith, size, f.sized, b.sized);
        each =
            λ piece lt.
            elim (cases_lt piece (length front)) [
              | inl inside ↦ get_or_append_left front back [] piece inside ∙ f.each piece inside
              | inr behind ↦
                  (let rest = b.each (piece - length front) (omega (arith, size)) in
                  get_or-append_right front back (length front) piece [] refl behind
                  ∙ rest
                  ∙ ap (moved_in regions weak marks) (omega (arith, f.sized)))
            ];
      }

  -- one piece more
  pub one_piece_more : (from to : ℕ) (pieces : List (List ℕ)) (piece : List ℕ) → ArePiecesOf regions weak marks from to pieces
      → piece ≡ moved_in regions weak marks to → ArePiecesOf regions weak marks from (to + 1) (pieces ++ piece ∷ [])
  one_piece_more from to pieces piece are is =
      pieces_joined from to (to + 1) pieces (piece ∷ []) are
      (record {
        sized = omega arith;
        each = λ k lt. let first : k ≡ 0 = omega arith in rw first (is ∙ ap (moved_in regions weak marks) (omega arith));
      })

  -- the pieces of the regions before one are the words before it
  concat-take-pieces : (to : ℕ) (pieces : List (List ℕ)) → ArePiecesOf regions weak marks 0 to pieces
      → (region : ℕ) → region ≤ length pieces → concat (take region pieces) ≡ moved_before region
  concat-take-pieces to pieces are zero le =
      sym (ap (moved_below regions.memory weak marks) (objects_before-zero regions.cut regions.memory)
      ∙ moved_below_none regions.memory weak marks)
  concat-take-pieces to pieces are (suc region) le =
      rw (← add-one region)
      (ap concat (take_more pieces region [] (omega arith))
      ∙ concat-push (take region pieces) (slice_index_or pieces region [])
      ∙ ap (λ (words : List ℕ). words ++ slice_index_or pieces region []) (concat-take-pieces to pieces are region (omega arith))
      ∙ ap (λ (words : List ℕ). moved_before region ++ words)
      (are.each region (omega arith) ∙ ap (moved_in regions weak marks) (omega arith))
      ∙ sym (moved_before-next region))

  -- the pieces of all regions are the words of all live objects
  pub concat-pieces : (memory : Memory) (count : ℕ) (pieces : List (List ℕ)) → regions.memory ≡ memory
      → ArePiecesOf regions weak marks 0 count pieces → objects_before regions.cut regions.memory count ≡ object_count regions.memory
      → length marks ≡ object_count memory → concat pieces ≡ concat (moved_objects memory weak marks)
  concat-pieces memory count pieces same are all sized =
      let whole = ap concat (take_all count pieces (omega (arith, are.sized))) in
      subst (λ (m : Memory). concat pieces ≡ concat (moved_objects m weak marks)) same
      (sym whole
      ∙ concat-take-pieces count pieces are count (omega (arith, are.sized))
      ∙ ap (moved_below regions.memory weak marks) all
      ∙ moved_below_all regions.memory weak marks (object_count regions.memory) (sized ∙ ap object_count (sym same)) (omega arith))
