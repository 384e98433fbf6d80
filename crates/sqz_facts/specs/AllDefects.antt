-- The defects of all marked objects.
use Rattle.std.specs.Prelude.{Bool, List, [], ◌∷◌, Option, Some, None}
use Rattle.std.specs.List.{filter_map, range_with_len}
use Rattle.sqz_image.specs.declared.fault.Fault.{Fault}
use Rattle.sqz_image.specs.Objects.{Memory, object_count}
use Rattle.sqz_trace.specs.declared.weak.Weak.{Weak}
use Rattle.sqz_trace.specs.Ranges.{defect_at}

-- the defect of each marked object that has one, by object
abbrev pub defects : Memory → Weak → List Bool → List Fault
defects memory weak marks = filter_map (defect_at memory weak marks) (range_with_len 0 (object_count memory))

-- the first element of a list
abbrev pub first_of : {X : Type 0} → List X → Option X
first_of [] = None
first_of (x ∷ xs) = Some x
