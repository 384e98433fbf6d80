-- What a slot points to is an object.
-- Serves `slots::named_by` and `CopyLemmas`; `PathLemmas` of `sqz_dominators`; `CallLemmas` of
-- `sqz_marks`; `GroupLemmas` of `sqz_histogram`; `steps::claim` of `sqz_test_marks`.
use Rattle.std.proofs.Common.{◌≡◌, ℕ, ◌<◌, List, Option, Some, None, sym}
use Rattle.std.specs.Option.{IfSome, option_and_then}
use Rattle.sqz_object.specs.declared.value.Value.{Value}
use Rattle.sqz_object.specs.declared.value.Value.TheVariants.{Int, Pointer, Odd}
use Rattle.sqz_object.specs.Value.{value_of}
use Rattle.sqz_image.specs.declared.slot.Slot.{Slot}
use Rattle.sqz_image.specs.Objects.{Memory, objects, object_count}
use Rattle.sqz_image.proofs.ObjectLemmas.{find_in-lt}
use Rattle.sqz_trace.specs.Slots.{word_among}
use Rattle.sqz_trace.specs.Targets.{object_named, named_by, named_among}

module _ (memory : Memory) where
  -- what a value names is an object
  object_named-lt : (value : Value) (index : ℕ) → object_named memory value ≡ Some index → index < object_count memory
  object_named-lt (Int number) index e = absurd cc
  object_named-lt (Pointer address) index e = find_in-lt memory.base (objects memory) address index e
  object_named-lt (Odd word) index e = absurd cc

  -- and so is what a word names
  pub named_by-lt : (word index : ℕ) → named_by memory word ≡ Some index → index < object_count memory
  named_by-lt word index e = object_named-lt (value_of word) index e

  -- the same of what a look-up gave
  pub named_by-inside : (word : ℕ) (found : Option ℕ) → found ≡ named_by memory word
      → IfSome found (λ index. index < object_count memory)
  named_by-inside word None is = tt
  named_by-inside word (Some index) is = named_by-lt word index (sym is)

  -- the same of what the word of a slot names, where there is such a slot
  named_at-lt : (word : Option ℕ) (index : ℕ) → option_and_then (named_by memory) word ≡ Some index
      → index < object_count memory
  named_at-lt None index e = absurd cc
  named_at-lt (Some word) index e = named_by-lt word index e

  -- what a slot names is an object
  pub named_among-lt : (count : ℕ) (chunk : List ℕ) (slot : Slot) (index : ℕ) → named_among memory count chunk slot ≡ Some index
      → index < object_count memory
  named_among-lt count chunk slot index e = named_at-lt (word_among count chunk slot) index e
