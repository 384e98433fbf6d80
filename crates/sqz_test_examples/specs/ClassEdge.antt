-- The image with a class word as an object memory.
use Rattle.std.specs.Prelude.{Bool, true, false, List, [], ◌∷◌}
use Rattle.sqz_object.specs.declared.order.Order.TheVariants.{Little}
use Rattle.sqz_image.specs.Objects.{Memory}

-- five objects: nil; an array that is dead; a class; its instance, of three words; and the special
-- objects array, which points to nil and the instance
abbrev pub class_edge : Memory
class_edge =
    record {
      order = Little;
      base = 0x1000;
      special = 0x1024;
      chunks =
          (0x1007 ∷ []) ∷ (0x320F ∷ 1 ∷ 1 ∷ []) ∷ (0x100B ∷ 1 ∷ []) ∷ (0x1011 ∷ 0x109 ∷ 1 ∷ [])
          ∷ (0x320F ∷ 0x1000 ∷ 0x101C ∷ []) ∷ [];
    }

-- the marks of its reachable objects
abbrev pub class_edge_marks : List Bool
class_edge_marks = true ∷ false ∷ true ∷ true ∷ true ∷ []
