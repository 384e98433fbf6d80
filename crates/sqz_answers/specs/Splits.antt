-- The parts of a row and the objects below it, while they are found.
use Rattle.std.specs.Prelude.{◌≡◌, ◌≢◌, ◌<◌, ◌≤◌, ℕ, true, false, List, length, slice_index, All, Contains, Some}
use Rattle.std.specs.List.{AllPairs}
use Rattle.sqz_dominators.specs.Retained.{DominatorTree}
use Rattle.sqz_answers.specs.declared.top_tree.TopTree.{TopTree}
use Rattle.sqz_answers.specs.Levels.{parent_of, held_value, is_joined, IsPart}
use Rattle.sqz_answers.specs.Variables.{Variables}

-- the immediate dominator of an object is a part before a bound
abbrev pub HasParentIn : DominatorTree → List ℕ → ℕ → ℕ → Type 0
HasParentIn tree parts bound child = (j : ℕ) × (j < bound) × (parent_of tree child ≡ Some (slice_index parts j))

-- of a row, the children of the parts before a bound were found
pub record IsSplit (tree : DominatorTree) (variables : Variables) (object bound : ℕ) (parts below : List ℕ) : Type 0 where
  pub some : 0 < length parts
  pub within : bound ≤ length parts
  pub first : slice_index parts 0 ≡ object
  -- no object was found twice
  pub once : AllPairs (λ one other. one ≢ other) parts
  pub once_below : AllPairs (λ one other. one ≢ other) below
  -- what was found has its place
  pub are_parts : All (IsPart tree variables object) parts
  pub apart : All (λ child. is_joined variables (held_value tree variables object) child ≡ false) below
  pub led : (k : ℕ) → 0 < k → k < length parts → HasParentIn tree parts bound (slice_index parts k)
  pub led_below : (k : ℕ) → k < length below → HasParentIn tree parts bound (slice_index below k)
  -- all of them were
  pub closed : (j child : ℕ) → j < bound → parent_of tree child ≡ Some (slice_index parts j)
      → is_joined variables (held_value tree variables object) child ≡ true → Contains parts child
  pub closed_below : (j child : ℕ) → j < bound → parent_of tree child ≡ Some (slice_index parts j)
      → is_joined variables (held_value tree variables object) child ≡ false → Contains below child

abbrev pub IsSplitOf : TopTree → ℕ → ℕ → List ℕ → List ℕ → Type 0
IsSplitOf top = IsSplit top.dominators.now top.parts.now
