-- Processes: those of an image, and what each of them does.
use Rattle.std.specs.Prelude.{ℕ, ◌<◌, zero, suc, ℤ, pos, negsuc, Bool, ◌&&◌, nat_eq, if◌then◌else◌, List}
use Rattle.std.specs.Prelude.{Option, Some, None, is_some, option_and_then}
use Rattle.std.specs.List.{filter_map, range_with_len}
use Rattle.std.specs.Option.{option_eq}
use Rattle.sqz_image.specs.declared.slot.Slot.TheVariants.{Field}
use Rattle.sqz_image.specs.Objects.{Memory, chunk_words, find, object_count}
use Rattle.sqz_trace.specs.declared.weak.Weak.{Weak}
use Rattle.sqz_trace.specs.Edges.{nil}
use Rattle.sqz_trace.specs.Graph.{is_marked}
use Rattle.sqz_trace.specs.Strong.{class_of}
use Rattle.sqz_trace.specs.Targets.{target}
use Rattle.sqz_names.specs.Fields.{value_field}
use Rattle.sqz_code.specs.declared.stacks.states.State.{State}
use Rattle.sqz_code.specs.declared.stacks.states.State.TheVariants.{Active, Ready, Waiting, Suspended}
use Rattle.sqz_code.specs.FieldValues.{along, integer_in}
use Rattle.sqz_code.specs.Fields.{scheduler_field, active_process_field, ready_lists_field, priority_field, list_field}

-- the scheduler: the value of an association that the special objects array points to
abbrev pub scheduler : Memory → Option ℕ
scheduler memory = along memory value_field (along memory scheduler_field (find memory memory.special))

abbrev pub active_process : Memory → Option ℕ
active_process memory = along memory active_process_field (scheduler memory)

-- whether an object is a live one of a class that is known
abbrev pub is_live_of : Memory → Weak → List Bool → Option ℕ → ℕ → Bool
is_live_of memory weak marks class object =
    is_marked marks object && (is_some class && option_eq nat_eq (class_of memory weak (chunk_words memory object)) class)

-- the class of an object, if there is the object
abbrev pub class_of_some : Memory → Weak → Option ℕ → Option ℕ
class_of_some memory weak None = None
class_of_some memory weak (Some object) = class_of memory weak (chunk_words memory object)

-- an object, if it is a live one of a class
abbrev pub if_live_of : Memory → Weak → List Bool → Option ℕ → ℕ → Option ℕ
if_live_of memory weak marks class object = if is_live_of memory weak marks class object then Some object else None

-- the processes: the live objects of the class of the active process, by index
abbrev pub processes : Memory → Weak → List Bool → List ℕ
processes memory weak marks =
    filter_map (if_live_of memory weak marks (class_of_some memory weak (active_process memory))) (range_with_len 0 (object_count memory))

-- the field of the list of the processes that are ready at a priority: priorities count from 1
abbrev pub field_before : ℕ → Option ℕ
field_before zero = None
field_before (suc field) = Some field

abbrev pub ready_field : Option ℤ → Option ℕ
ready_field None = None
ready_field (Some (pos priority)) = field_before priority
ready_field (Some (negsuc number)) = None

-- this list
abbrev pub ready_list : Memory → Option ℤ → Option ℕ
ready_list memory priority =
    option_and_then (λ field. along memory field (along memory ready_lists_field (scheduler memory))) (ready_field priority)

-- what a process does that is in a list, or in none
abbrev pub state_in : Option ℕ → Option ℕ → Option ℕ → State
state_in nil ready None = Suspended
state_in nil ready (Some list) =
    if option_eq nat_eq nil (Some list) then Suspended
    else (if option_eq nat_eq ready (Some list) then Ready else Waiting list)

-- what a process does
abbrev pub state : Memory → Weak → ℕ → State
state memory weak process =
    if option_eq nat_eq (active_process memory) (Some process) then Active
    else state_in (nil memory weak) (ready_list memory (integer_in memory process priority_field)) (target memory process (Field list_field))

-- the list that a process waits in is one of this number of objects
abbrev pub WaitsBelow : ℕ → State → Type 0
WaitsBelow count Active = Unit {0}
WaitsBelow count Ready = Unit {0}
WaitsBelow count (Waiting list) = list < count
WaitsBelow count Suspended = Unit {0}
