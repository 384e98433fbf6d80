-- The numbers of the fields by which processes and contexts are read, as the module `fields` of the
-- code has them.
use Rattle.std.specs.Prelude.{ℕ}

-- ---- the special objects array

-- the association of the scheduler
abbrev pub scheduler_field : ℕ
scheduler_field = 3

-- ---- the scheduler

-- the array of the lists of ready processes
abbrev pub ready_lists_field : ℕ
ready_lists_field = 0

-- the active process
abbrev pub active_process_field : ℕ
active_process_field = 1

-- ---- a process

-- its innermost context
abbrev pub suspended_context_field : ℕ
suspended_context_field = 1

-- its priority
abbrev pub priority_field : ℕ
priority_field = 2

-- the list that it is in
abbrev pub list_field : ℕ
list_field = 3

-- ---- a context

-- the context to which it returns: its sender, or the caller of a block
abbrev pub sender_field : ℕ
sender_field = 0

-- its program counter
abbrev pub program_counter_field : ℕ
program_counter_field = 1

-- the method of a method's context; that of a block has a number of arguments there
abbrev pub method_field : ℕ
method_field = 3

-- the receiver of a method's context
abbrev pub receiver_field : ℕ
receiver_field = 5

-- the context of the method that a block is of
abbrev pub home_field : ℕ
home_field = 5
