-- Weak slots that point to an object.
use Rattle.std.specs.Prelude.{ℕ, Bool, is_none}
use Rattle.sqz_image.specs.declared.slot.Slot.{Slot}
use Rattle.sqz_image.specs.Objects.{Memory}
use Rattle.sqz_trace.specs.declared.weak.Weak.TheVariants.{Clear}
use Rattle.sqz_trace.specs.Edges.{strong_target}

-- of a slot that points to an object: it is not strong if weak slots are cleared
abbrev pub is_weak_slot : Memory → ℕ → Slot → Bool
is_weak_slot memory object slot = is_none (strong_target memory Clear object slot)
