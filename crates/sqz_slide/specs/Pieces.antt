-- The live objects of each region after the move.
use Rattle.std.specs.Prelude.{◌≡◌, ℕ, ◌+◌, ◌*◌, ◌/◌, ◌==◌, ◌<◌, Bool, List, [], map, length, filter, slice_index_or}
use Rattle.std.specs.Prelude.{Result, Ok}
use Rattle.std.specs.Global.{Vec}
use Rattle.std.specs.declared.alloc.AllocError.{AllocError}
use Rattle.std.specs.List.{concat}
use Rattle.sqz_trace.specs.declared.weak.Weak.{Weak}
use Rattle.sqz_trace.specs.Live.{live}
use Rattle.sqz_regions.specs.Regions.{Regioning, region_of, region_count}
use Rattle.sqz_slide.specs.Moved.{moved}

-- the words of the live objects of a region after the move, in order
abbrev pub moved_in : Regioning → Weak → List Bool → ℕ → List ℕ
moved_in regions weak marks region =
    concat (map (λ object. moved regions.memory weak marks object.chunk)
    (filter (λ object. region_of regions.cut object == region) (live regions.memory marks)))

-- the pieces of the regions from one up to another, which is excluded: the moved live objects of
-- each
pub record ArePiecesOf (regions : Regioning) (weak : Weak) (marks : List Bool) (from to : ℕ) (pieces : List (List ℕ)) : Type 0 where
  pub sized : from + length pieces ≡ to
  pub each : (piece : ℕ) → piece < length pieces → slice_index_or pieces piece [] ≡ moved_in regions weak marks (from + piece)

-- the pieces of all regions
abbrev pub ArePieces : Regioning → Weak → List Bool → List (List ℕ) → Type 0
ArePieces regions weak marks pieces = ArePiecesOf regions weak marks 0 (region_count regions.cut regions.memory) pieces

-- the first region of a worker; arguments: the number of regions, the number of workers, the
-- worker
abbrev pub first_region : ℕ → ℕ → ℕ → ℕ
first_region regions workers worker = worker * regions / workers

-- the pieces of a worker's regions: from its first one up to the next worker's
abbrev pub IsShareOf : Regioning → Weak → List Bool → ℕ → ℕ → List (List ℕ) → Type 0
IsShareOf regions weak marks workers worker pieces =
    let count = region_count regions.cut regions.memory in
    ArePiecesOf regions weak marks (first_region count workers worker) (first_region count workers (worker + 1)) pieces

-- each worker's result, unless it is out of memory, has the pieces of its regions
abbrev pub AreShares : Regioning → Weak → List Bool → List (Result (Vec (Vec ℕ)) AllocError) → Type 0
AreShares regions weak marks shares =
    (worker : ℕ) (pieces : Vec (Vec ℕ)) → worker < length shares → Ok pieces ≡ slice_index_or shares worker (Ok pieces)
    → IsShareOf regions weak marks (length shares) worker (map (λ piece. piece.items) pieces.items)
