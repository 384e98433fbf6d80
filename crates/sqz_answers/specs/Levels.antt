-- The objects that a row of the dominator tree stands for, and the level below it.
use Rattle.std.specs.Prelude.{◌≡◌, ◌≢◌, ◌↔◌, ◌⊎◌, ◌==◌, ◌||◌, ◌*◌, ◌<◌, ℕ, Bool, true, false, if◌then◌else◌, List, length, sum_by}
use Rattle.std.specs.Prelude.{slice_index_or, Option, Some, None, Contains}
use Rattle.std.specs.List.{AllPairs}
use Rattle.std.specs.Ordering.{nat_cmp, is_lt, ordering_then}
use Rattle.sqz_image.specs.Objects.{Memory, chunk_words}
use Rattle.sqz_dominators.specs.Children.{retained_bytes}
use Rattle.sqz_dominators.specs.Retained.{DominatorTree}
use Rattle.sqz_answers.specs.Variables.{Variables}

-- the immediate dominator of an object, if it has one
abbrev pub parent_of : DominatorTree → ℕ → Option ℕ
parent_of tree object = slice_index_or tree.immediate object None

-- whether there is an object, and it is this one
abbrev pub is_the : Option ℕ → ℕ → Bool
is_the None object = false
is_the (Some other) object = other == object

-- a value whose immediate dominator is the object
abbrev pub value_under : DominatorTree → ℕ → Option ℕ → Option ℕ
value_under tree object None = None
value_under tree object (Some value) = if is_the (parent_of tree value) object then Some value else None

-- the object that the association of a variable holds, if nothing else holds it
abbrev pub held_value : DominatorTree → Variables → ℕ → Option ℕ
held_value tree variables object = value_under tree object (slice_index_or variables.values object None)

-- whether a child of a part of a row is a part too: it only holds variables, or it is the value
abbrev pub is_joined : Variables → Option ℕ → ℕ → Bool
is_joined variables value child = slice_index_or variables.holders child false || is_the value child

-- the parts of the row of an object: the objects that the row stands for
pub data IsPart (tree : DominatorTree) (variables : Variables) (object : ℕ) : ℕ → Type 0 where
  -- the object itself
  itself : IsPart tree variables object object
  -- its value, and each child of a part that only holds variables
  joined : (part child : ℕ) → IsPart tree variables object part → parent_of tree child ≡ Some part
      → is_joined variables (held_value tree variables object) child ≡ true → IsPart tree variables object child

-- an object on the level below the row of an object: any other child of a part
pub record IsBelow (tree : DominatorTree) (variables : Variables) (object below : ℕ) : Type 0 where
  pub part : ℕ
  pub is_part : IsPart tree variables object part
  pub is_child : parent_of tree below ≡ Some part
  pub apart : is_joined variables (held_value tree variables object) below ≡ false

-- objects that retain more come first; on a tie, the one with the lower index
abbrev pub RetainsMore : DominatorTree → ℕ → ℕ → Type 0
RetainsMore tree one other = (retained_bytes tree other < retained_bytes tree one)
    ⊎ ((retained_bytes tree one ≡ retained_bytes tree other) × (one < other))

-- whether an object comes before another by this order
abbrev pub is_before : DominatorTree → ℕ → ℕ → Bool
is_before tree one other =
    is_lt (ordering_then (nat_cmp (retained_bytes tree other) (retained_bytes tree one)) (nat_cmp one other))

-- the bytes of the chunks of all parts of a row, header words included, and the objects on the
-- level below it, in order
pub record IsLevel (memory : Memory) (tree : DominatorTree) (variables : Variables) (object own : ℕ) (below : List ℕ) : Type 0 where
  pub parts : List ℕ
  pub are_parts : (part : ℕ) → Contains parts part ↔ IsPart tree variables object part
  pub once : AllPairs (λ one other. one ≢ other) parts
  pub own_is : own ≡ 4 * sum_by (λ part. length (chunk_words memory part)) parts
  pub are_below : (child : ℕ) → Contains below child ↔ IsBelow tree variables object child
  pub ordered : AllPairs (RetainsMore tree) below
