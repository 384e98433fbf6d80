-- What contexts run.
use Rattle.std.specs.Prelude.{ℕ, ◌<◌, ℤ, Bool, if◌then◌else◌, Option, Some, None, is_some, option_and_then, option_map}
use Rattle.sqz_image.specs.declared.slot.Slot.TheVariants.{Field}
use Rattle.sqz_image.specs.Objects.{Memory}
use Rattle.sqz_trace.specs.Targets.{target}
use Rattle.sqz_code.specs.declared.stacks.frames.Frame.{Frame}
use Rattle.sqz_code.specs.declared.stacks.frames.Receiver.{Receiver}
use Rattle.sqz_code.specs.declared.stacks.frames.Receiver.TheVariants.{Integer, Object}
use Rattle.sqz_names.specs.Structures.{is_method}
use Rattle.sqz_code.specs.Contexts.{context_in}
use Rattle.sqz_code.specs.FieldValues.{integer_in}
use Rattle.sqz_code.specs.Fields.{home_field, method_field, program_counter_field, receiver_field}

-- whether a context is that of a block: it has a number of arguments in place of a method
abbrev pub is_block : Memory → ℕ → Bool
is_block memory context = is_some (integer_in memory context method_field)

-- the context of the method: of a block the one that its home points to
abbrev pub home : Memory → ℕ → Option ℕ
home memory context = if is_block memory context then context_in memory context home_field else Some context

-- the compiled method that the method field of a context points to
abbrev pub method_of : Memory → ℕ → Option ℕ
method_of memory context =
    option_and_then (λ found. if is_method memory found then Some found else None) (target memory context (Field method_field))

-- a SmallInteger, or else an object
abbrev pub integer_or_object : Option ℤ → Option ℕ → Option Receiver
integer_or_object (Some number) object = Some (Integer number)
integer_or_object None object = option_map (λ found. Object found) object

-- the receiver in the context of a method
abbrev pub receiver : Memory → ℕ → Option Receiver
receiver memory context =
    integer_or_object (integer_in memory context receiver_field) (target memory context (Field receiver_field))

-- a receiver with a header is one of this number of objects
abbrev pub ReceiverBelow : ℕ → Receiver → Type 0
ReceiverBelow count (Object object) = object < count
ReceiverBelow count (Integer number) = Unit {0}

abbrev pub frame : Memory → ℕ → Frame
frame memory context = record {
  method = option_and_then (method_of memory) (home memory context);
  is_block = is_block memory context;
  pc = integer_in memory context program_counter_field;
  receiver = option_and_then (receiver memory) (home memory context);
}
