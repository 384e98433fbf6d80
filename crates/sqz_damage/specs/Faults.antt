-- Where the faults of an image are.
use Rattle.std.specs.Prelude.{ℕ, length, Option, Some, None, option_and_then, option_map}
use Rattle.sqz_image.specs.declared.fault.Fault.{Fault}
use Rattle.sqz_image.specs.declared.fault.Fault.TheVariants.{NoClass, BadMethod, BadContext, BadWeak, BadPointer}
use Rattle.sqz_image.specs.declared.slot.Slot.{Slot}
use Rattle.sqz_image.specs.Objects.{SavedImage, find, object_at}
use Rattle.sqz_damage.specs.declared.places.faults.FaultPlace.{FaultPlace}
use Rattle.sqz_damage.specs.Bytes.{byte_of_word}
use Rattle.sqz_damage.specs.Words.{word_of}

-- the address of the object that is at fault
abbrev pub fault_address : Fault → Option ℕ
fault_address (NoClass address) = Some address
fault_address (BadMethod address) = Some address
fault_address (BadContext address) = Some address
fault_address (BadWeak address) = Some address
fault_address (BadPointer address slot) = Some address
fault_address _ = None

-- the slot that is at fault
abbrev pub fault_slot : Fault → Option Slot
fault_slot (BadPointer address slot) = Some slot
fault_slot _ = None

-- where an object or one of its slots is
abbrev pub place_of : SavedImage → Option Slot → ℕ → FaultPlace
place_of image slot object = record {
  object = object;
  slot = slot;
  byte = byte_of_word (length image.prefix) (word_of (object_at image.memory object) slot);
}

-- where a fault is: at the object with the address that it states, if there is one
abbrev pub fault_place : SavedImage → Fault → Option FaultPlace
fault_place image fault =
    option_map (place_of image (fault_slot fault)) (option_and_then (find image.memory) (fault_address fault))
