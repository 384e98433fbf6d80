-- Stacks of contexts.
use Rattle.std.specs.Prelude.{◌≡◌, ℕ, Bool, true, false, List, [], ◌∷◌, slice_set, Option, Some, IfSome}
use Rattle.sqz_image.specs.Objects.{Memory}
use Rattle.sqz_trace.specs.Graph.{is_marked}
use Rattle.sqz_code.specs.Contexts.{sender}

-- a context and those to which it returns, none of which is listed, each once: up to one that
-- returns to no context, or to one that is listed or in the stack
abbrev pub IsStack : Memory → List Bool → Option ℕ → List ℕ → Option ℕ → Type 0
IsStack memory listed next [] meets = (next ≡ meets) × IfSome meets (λ context. is_marked listed context ≡ true)
IsStack memory listed next (context ∷ contexts) meets =
    (next ≡ Some context) × (is_marked listed context ≡ false)
    × IsStack memory (slice_set listed context true) (sender memory context) contexts meets

-- the list with these contexts
abbrev pub with_all : List Bool → List ℕ → List Bool
with_all listed [] = listed
with_all listed (context ∷ contexts) = with_all (slice_set listed context true) contexts
