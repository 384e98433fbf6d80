-- An object without a defect, by its strong slots. Unless weak slots are cleared, these are all its
-- slots.
use Rattle.std.specs.Prelude.{◌≡◌, ◌&&◌, not, ℕ, Bool, true, List, All}
use Rattle.sqz_image.specs.declared.slot.Slot.{Slot}
use Rattle.sqz_trace.specs.Slots.{word_among}
use Rattle.sqz_trace.specs.Edges.{OutEdges}
use Rattle.sqz_trace.specs.Defects.{lacks_class, is_bad_method, is_bad_context, is_bad_word}

-- a strong slot holds a SmallInteger or the address of an object, or there is no such slot
abbrev pub is_good_slot : OutEdges → Slot → Bool
is_good_slot edges slot = not (is_bad_word edges.memory (word_among edges.strong edges.words slot))

-- the object with these words has a class, and is neither a bad method nor a bad context
abbrev pub is_well_formed : List ℕ → Bool
is_well_formed chunk = not (lacks_class chunk) && not (is_bad_method chunk) && not (is_bad_context chunk)

-- the object with these edges is well formed, and these slots are good
pub record IsGood (edges : OutEdges) (slots : List Slot) : Type 0 where
  pub formed : is_well_formed edges.words ≡ true
  pub each : All (λ slot. is_good_slot edges slot ≡ true) slots
