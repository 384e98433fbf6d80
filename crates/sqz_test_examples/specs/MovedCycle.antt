-- The compaction of the image with a dead cycle.
use Rattle.std.specs.Prelude.{Bool, true, false, List, [], ◌∷◌}
use Rattle.sqz_object.specs.declared.order.Order.TheVariants.{Little}
use Rattle.sqz_image.specs.Objects.{Memory}

-- the marks of its reachable objects
abbrev pub cycle_marks : List Bool
cycle_marks = true ∷ true ∷ false ∷ true ∷ false ∷ true ∷ []

-- four objects: nil; 1 and 2, which point to each other; and the special objects array, which
-- points to 0 and 1
abbrev pub moved_cycle : Memory
moved_cycle =
    record {
      order = Little;
      base = 0x1000;
      special = 0x1014;
      chunks = (0x1007 ∷ []) ∷ (0x110B ∷ 0x100C ∷ []) ∷ (0x110B ∷ 0x1004 ∷ []) ∷ (0x320F ∷ 0x1000 ∷ 0x1004 ∷ []) ∷ [];
    }
