-- The image with a dead cycle as an object memory, and its marking by two workers.
use Rattle.std.specs.Prelude.{ℕ, List, [], ◌∷◌, map}
use Rattle.sqz_object.specs.declared.order.Order.TheVariants.{Little}
use Rattle.sqz_image.specs.Objects.{Memory}
use Rattle.sqz_trace.specs.declared.weak.Weak.TheVariants.{Keep}
use Rattle.sqz_regions.specs.Regions.{Regioning, At}
use Rattle.sqz_marks.specs.Core.{Marking, State, Event, marking_of, opening}

-- six objects: nil; 1 and 3, which point to each other; 2 and 4, which do so and are dead; and the
-- special objects array, which points to 0 and 1
abbrev pub dead_cycle : Memory
dead_cycle =
    record {
      order = Little;
      base = 0x1000;
      special = 0x1024;
      chunks =
          (0x1007 ∷ []) ∷ (0x110B ∷ 0x1014 ∷ []) ∷ (0x110B ∷ 0x101C ∷ []) ∷ (0x110B ∷ 0x1004 ∷ []) ∷ (0x110B ∷ 0x100C ∷ [])
          ∷ (0x320F ∷ 0x1000 ∷ 0x1004 ∷ []) ∷ [];
    }

-- the same memory, cut before objects 1 and 2
abbrev pub dead_cycle_heap : Regioning
dead_cycle_heap = record { cut = At (1 ∷ 3 ∷ []); memory = dead_cycle }

-- its marking; the special objects array is the start
abbrev pub dead_cycle_marking : Marking
dead_cycle_marking = marking_of dead_cycle_heap Keep 2 5

abbrev pub dead_cycle_opening : State
dead_cycle_opening = opening dead_cycle_marking

-- events of one pass
abbrev pub by_pass : ℕ → List Event → List (ℕ × Event)
by_pass pass events = map (λ event. (pass, event)) events
