-- Contexts, and those to which they return.
use Rattle.std.specs.Prelude.{ℕ, Option, Some, None, option_and_then}
use Rattle.sqz_object.specs.declared.layout.Layout.{Layout}
use Rattle.sqz_object.specs.declared.layout.Layout.TheVariants.{Fields, Weak, Context, Words, Bytes, Method}
use Rattle.sqz_object.specs.Layout.{layout}
use Rattle.sqz_image.specs.declared.slot.Slot.TheVariants.{Field}
use Rattle.sqz_image.specs.Objects.{Memory, chunk_words}
use Rattle.sqz_trace.specs.Targets.{target}
use Rattle.sqz_code.specs.Fields.{sender_field, suspended_context_field}

-- an object, if it has the layout of a context
abbrev pub if_context : Layout → ℕ → Option ℕ
if_context Fields object = None
if_context Weak object = None
if_context Context object = Some object
if_context Words object = None
if_context (Bytes unused) object = None
if_context Method object = None

-- the context that a traced field of an object points to
abbrev pub context_in : Memory → ℕ → ℕ → Option ℕ
context_in memory object field =
    option_and_then (λ found. if_context (layout (chunk_words memory found)) found) (target memory object (Field field))

-- the context to which a context returns: its sender, or the caller of a block
abbrev pub sender : Memory → ℕ → Option ℕ
sender memory context = context_in memory context sender_field

-- the innermost context of a process
abbrev pub innermost : Memory → ℕ → Option ℕ
innermost memory process = context_in memory process suspended_context_field
