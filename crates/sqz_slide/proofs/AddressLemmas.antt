-- The new address of a word's target, by a list of new addresses.
-- Serves `mover::Mover::piece_of`, `mover::Mover::push_strong`, `mover::Mover::push_weak`,
-- `piece_sizes::piece_size` and `SizeLemmas`.
use Rattle.std.proofs.Common.{◌≡◌, ℕ, ◌<◌, Bool, true, false, cond, List, [], ◌∷◌, ◌+◌, ◌++◌, map, length, get_or, take}
use Rattle.std.proofs.Common.{Option, Some, None, is_some, slice_index_or, refl, sym, ap, ◌∙◌, append_assoc}
use Rattle.std.proofs.lemmas.List.{map_push, take_more}
use Rattle.std.proofs.lemmas.Option.{none-some, same_Some}
use Rattle.sqz_image.specs.Objects.{Memory, object_count}
use Rattle.sqz_trace.specs.Graph.{is_marked}
use Rattle.sqz_regions.specs.Places.{place}
use Rattle.sqz_regions.specs.Bases.{ArePlacesOf}
use Rattle.sqz_slide.specs.Moved.{new_address}

module _ (f : ℕ → ℕ) (front words : List ℕ) (k word : ℕ) where
  -- one word more, of words that change one by one and are put behind others
  pub map_one_more : (now next : List ℕ) → k < length words → word ≡ f (get_or words k 0) → now ≡ front ++ map f (take k words)
      → next ≡ now ++ word ∷ [] → next ≡ front ++ map f (take (k + 1) words)
  map_one_more now next lt is so_far pushed =
      pushed
      ∙ ap (λ (xs : List ℕ). xs ++ word ∷ []) so_far
      ∙ append_assoc front (map f (take k words)) (word ∷ [])
      ∙ ap (λ (back : List ℕ). front ++ back)
      (ap (λ (x : ℕ). map f (take k words) ++ x ∷ []) is
      ∙ sym (map_push f (take k words) (get_or words k 0))
      ∙ ap (map f) (sym (take_more words k 0 lt)))

module _ (memory : Memory) (marks : List Bool) (places : List (Option ℕ)) (are : ArePlacesOf memory marks places) (word : ℕ) where
  if_place : (test : Bool) (at place : ℕ) → Some place ≡ cond test (Some at) None → place ≡ cond test at word
  if_place true at place e = same_Some place at e
  if_place false at place e = absurd (none-some place (sym e))

  if_none : (test : Bool) (at : ℕ) → None ≡ cond test (Some at) None → word ≡ cond test at word
  if_none true at e = absurd (none-some at e)
  if_none false at e = refl

  -- an object that has a place
  pub new_address-place : (named address : ℕ) → named < object_count memory → Some address ≡ slice_index_or places named None
      → address ≡ new_address memory marks word (Some named)
  new_address-place named address lt e =
      if_place (is_marked marks named) (place memory marks named) address (e ∙ are.each named lt)

  -- and one that has none
  pub new_address-no_place : (named : ℕ) → named < object_count memory → None ≡ slice_index_or places named None
      → word ≡ new_address memory marks word (Some named)
  new_address-no_place named lt e =
      if_none (is_marked marks named) (place memory marks named) (e ∙ are.each named lt)

-- there is a place just where there is a mark
is_some_if : (test : Bool) (at : ℕ) → is_some (cond test (Some at) None) ≡ test
is_some_if true at = refl
is_some_if false at = refl

-- an object is marked just where it has a place
pub is_marked-place : (memory : Memory) (marks : List Bool) (places : List (Option ℕ)) (index : ℕ) → ArePlacesOf memory marks places
    → index < object_count memory → is_marked marks index ≡ is_some (slice_index_or places index None)
is_marked-place memory marks places index are lt =
    sym (ap is_some (are.each index lt) ∙ is_some_if (is_marked marks index) (place memory marks index))
