-- The class with a compact index as the format defines it: by the targets of two slots.
use Rattle.std.specs.Prelude.{◌≡◌, ◌⊎◌, ℕ, zero, suc, true, Option, Some, None, option_and_then}
use Rattle.sqz_object.specs.declared.chunk.Kind.TheVariants.{Short}
use Rattle.sqz_object.specs.Chunk.{chunk_kind}
use Rattle.sqz_image.specs.declared.slot.Slot.TheVariants.{Field}
use Rattle.sqz_image.specs.Objects.{Memory, chunk_words, find}
use Rattle.sqz_trace.specs.declared.weak.Weak.{Weak}
use Rattle.sqz_trace.specs.Strong.{is_weak}
use Rattle.sqz_trace.specs.Edges.{strong_target}

-- the array of compact classes: the target of field 28 of the special objects array
abbrev pub array_by_targets : Memory → Weak → Option ℕ
array_by_targets memory weak =
    option_and_then (λ special. strong_target memory weak special (Field 28)) (find memory memory.special)

-- the class with a compact index: the target of field `index - 1` of the array of compact classes;
-- index 0 stands for no class
abbrev pub class_by_targets : Memory → Weak → ℕ → Option ℕ
class_by_targets memory weak zero = None
class_by_targets memory weak (suc field) =
    option_and_then (λ array. strong_target memory weak array (Field field)) (array_by_targets memory weak)

-- the lookup of a compact index would need its own result: one of the two arrays is a weak object
-- with a header of one word, so only the class that its own compact index stands for says which of
-- its fields are strong
pub record IsCircular (memory : Memory) (weak : Weak) : Type 0 where
  pub array : ℕ
  pub is_one : (find memory memory.special ≡ Some array) ⊎ (array_by_targets memory weak ≡ Some array)
  pub has_weak_slots : is_weak weak (chunk_words memory array) ≡ true
  pub has_short_header : chunk_kind (chunk_words memory array) ≡ Short
