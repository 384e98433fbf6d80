-- The compacted image: the bytes before the header unchanged, the header with two words renewed,
-- and the live objects at their new addresses.
use Rattle.std.specs.Prelude.{ℕ, ◌*◌, Bool, List}
use Rattle.sqz_image.specs.Objects.{Memory, SavedImage, find}
use Rattle.sqz_image.specs.File.{renewed}
use Rattle.sqz_trace.specs.declared.weak.Weak.{Weak}
use Rattle.sqz_trace.specs.Live.{live_words}
use Rattle.sqz_slide.specs.Moved.{new_address, moved_objects}

-- the new address of the special objects array
abbrev pub new_special : Memory → List Bool → ℕ
new_special memory marks = new_address memory marks memory.special (find memory memory.special)

-- the live objects at their new addresses, from the same base on, and no free chunks
abbrev pub compacted_memory : Memory → Weak → List Bool → Memory
compacted_memory memory weak marks =
    record {
      order = memory.order;
      base = memory.base;
      special = new_special memory marks;
      chunks = moved_objects memory weak marks;
    }

-- word 2 becomes the number of live bytes, word 4 the new address of the special objects array
abbrev pub compacted_header : SavedImage → List Bool → List ℕ
compacted_header image marks =
    renewed image.header (4 * live_words image.memory marks) (new_special image.memory marks)

-- the compaction of an image, for the marks of its reachable objects
abbrev pub compacted : SavedImage → Weak → List Bool → SavedImage
compacted image weak marks =
    record {
      prefix = image.prefix;
      header = compacted_header image marks;
      memory = compacted_memory image.memory weak marks;
    }
