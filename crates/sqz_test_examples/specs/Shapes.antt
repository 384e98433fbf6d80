-- Object memories whose objects form small graphs. Object 0 of each is nil, and the last object is
-- the special objects array.
use Rattle.std.specs.Prelude.{[], ◌∷◌}
use Rattle.sqz_object.specs.declared.order.Order.TheVariants.{Little}
use Rattle.sqz_image.specs.Objects.{Memory}

-- object 5 points to 0 and 1, object 1 to 2 and 3, and both of these to 4
abbrev pub diamond : Memory
diamond =
    record {
      order = Little;
      base = 0x1000;
      special = 0x1028;
      chunks =
          (0x1007 ∷ []) ∷ (0x110F ∷ 0x1010 ∷ 0x1018 ∷ []) ∷ (0x110B ∷ 0x1020 ∷ []) ∷ (0x110B ∷ 0x1020 ∷ [])
          ∷ (0x100B ∷ 1 ∷ []) ∷ (0x320F ∷ 0x1000 ∷ 0x1004 ∷ []) ∷ [];
    }

-- object 4 points to 0 and 1, object 1 to 2, and object 2 to 3
abbrev pub chain : Memory
chain =
    record {
      order = Little;
      base = 0x1000;
      special = 0x101C;
      chunks =
          (0x1007 ∷ []) ∷ (0x110B ∷ 0x100C ∷ []) ∷ (0x110B ∷ 0x1014 ∷ []) ∷ (0x100B ∷ 1 ∷ [])
          ∷ (0x320F ∷ 0x1000 ∷ 0x1004 ∷ []) ∷ [];
    }

-- object 3 points to 0, 1 and 2; objects 1 and 2 point to each other
abbrev pub cycle_with_two_entries : Memory
cycle_with_two_entries =
    record {
      order = Little;
      base = 0x1000;
      special = 0x1014;
      chunks =
          (0x1007 ∷ []) ∷ (0x110B ∷ 0x100C ∷ []) ∷ (0x110B ∷ 0x1004 ∷ [])
          ∷ (0x3213 ∷ 0x1000 ∷ 0x1004 ∷ 0x100C ∷ []) ∷ [];
    }

-- object 2 points to 0 and 1, and object 1 to 2
abbrev pub root_in_cycle : Memory
root_in_cycle =
    record {
      order = Little;
      base = 0x1000;
      special = 0x100C;
      chunks = (0x1007 ∷ []) ∷ (0x110B ∷ 0x100C ∷ []) ∷ (0x320F ∷ 0x1000 ∷ 0x1004 ∷ []) ∷ [];
    }

-- object 4 points to 0 and 3; the class word of object 3 points to 1, and its weak slot to 2
abbrev pub weak_fields : Memory
weak_fields =
    record {
      order = Little;
      base = 0x1000;
      special = 0x1028;
      chunks =
          (0x1007 ∷ []) ∷ (0x1113 ∷ 1 ∷ 1 ∷ 0x405 ∷ []) ∷ (0x100B ∷ 1 ∷ []) ∷ (0x1005 ∷ 0x409 ∷ 0x1014 ∷ [])
          ∷ (0x320F ∷ 0x1000 ∷ 0x1020 ∷ []) ∷ [];
    }
