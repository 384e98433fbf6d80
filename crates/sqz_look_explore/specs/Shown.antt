-- The objects that a page shows.
use Rattle.std.specs.Prelude.{◌&&◌, ℕ, Bool, nat_le, if◌then◌else◌, List, Option, Some, None}
use Rattle.std.specs.List.{filter_map, range_with_len}
use Rattle.sqz_image.specs.Objects.{Memory, object_count}
use Rattle.sqz_trace.specs.Graph.{is_marked}
use Rattle.sqz_dominators.specs.Children.{retained_bytes}
use Rattle.sqz_dominators.specs.Retained.{DominatorTree}

-- whether an object is live and retains at least this many bytes
abbrev pub is_shown : List Bool → DominatorTree → ℕ → ℕ → Bool
is_shown marks tree least object = is_marked marks object && nat_le least (retained_bytes tree object)

-- an object, if it is shown
abbrev pub if_shown : List Bool → DominatorTree → ℕ → ℕ → Option ℕ
if_shown marks tree least object = if is_shown marks tree least object then Some object else None

-- the objects that are shown, each once, by address
abbrev pub shown_objects : Memory → List Bool → DominatorTree → ℕ → List ℕ
shown_objects memory marks tree least = filter_map (if_shown marks tree least) (range_with_len 0 (object_count memory))
