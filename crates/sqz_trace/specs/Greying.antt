-- How shades change as marking goes on: an object's white targets become grey, and the object
-- black.
use Rattle.std.specs.Prelude.{◌≡◌, ◌⊎◌, ◌+◌, ◌<◌, ◌≤◌, ℕ, true, List, [], ◌∷◌, ◌++◌, length, Contains}
use Rattle.sqz_trace.specs.declared.shades.Shade.{Shade}
use Rattle.sqz_trace.specs.declared.shades.Shade.TheVariants.{White, Grey, Black}
use Rattle.sqz_trace.specs.Graph.{is_marked}
use Rattle.sqz_trace.specs.Shades.{shade_at, marks_of}

-- the targets that were white become grey, and no other shade changes
pub record Greys (IsTarget : ℕ → Type 0) (old new : List Shade) : Type 0 where
  pub sized : length new ≡ length old
  pub targets : (index : ℕ) → IsTarget index → is_marked (marks_of new) index ≡ true
  pub only : (index : ℕ) → (shade_at new index ≡ shade_at old index)
      ⊎ (IsTarget index × (shade_at old index ≡ White) × (shade_at new index ≡ Grey))

-- a grey object becomes black, and its white targets grey
pub record Blackens (IsTarget : ℕ → Type 0) (object : ℕ) (old new : List Shade) : Type 0 where
  pub sized : length new ≡ length old
  pub black : shade_at new object ≡ Black
  pub targets : (index : ℕ) → IsTarget index → is_marked (marks_of new) index ≡ true
  pub only : (index : ℕ) → (index ≡ object) ⊎ ((shade_at new index ≡ shade_at old index)
      ⊎ (IsTarget index × (shade_at old index ≡ White) × (shade_at new index ≡ Grey)))

-- a white object became grey
abbrev pub BecameGrey : List Shade → List Shade → ℕ → Type 0
BecameGrey old new index = (shade_at old index ≡ White) × (shade_at new index ≡ Grey)

-- the lowest of a number and the objects that became grey
pub record IsLowest (next : ℕ) (old new : List Shade) (lowest : ℕ) : Type 0 where
  pub no_higher : lowest ≤ next
  pub found : (lowest ≡ next) ⊎ BecameGrey old new lowest
  pub none_below : (index : ℕ) → index < lowest → BecameGrey old new index → ⊥

-- 1 for a white object, else 0
abbrev pub white : Shade → ℕ
white White = 1
white Grey = 0
white Black = 0

abbrev pub white_count : List Shade → ℕ
white_count [] = 0
white_count (shade ∷ shades) = white shade + white_count shades

-- the list grew at its end by the objects that were white and no longer are: each once, and each
-- is grey now
pub record IsListed (old new : List Shade) (list longer : List ℕ) : Type 0 where
  pub added : List ℕ
  pub at_end : longer ≡ list ++ added
  pub became : (index : ℕ) → shade_at old index ≡ White → is_marked (marks_of new) index ≡ true → Contains added index
  pub only : (index : ℕ) → Contains added index → BecameGrey old new index
  pub measure : length added + white_count new ≡ white_count old
