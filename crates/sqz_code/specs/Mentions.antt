-- What compiled methods mention and send.
use Rattle.std.specs.Prelude.{◌≡◌, ℕ, ◌+◌, ◌*◌, Bool, true, List, ◌++◌, Contains, Option, None, option_and_then}
use Rattle.std.specs.List.{filter_map}
use Rattle.sqz_image.specs.declared.slot.Slot.TheVariants.{Field}
use Rattle.sqz_image.specs.Objects.{Memory, object_count, chunk_words, find}
use Rattle.sqz_trace.specs.Avoiding.{MarksListed}
use Rattle.sqz_trace.specs.Graph.{is_marked}
use Rattle.sqz_trace.specs.Targets.{target, named_by}
use Rattle.sqz_names.specs.declared.method_name.MethodName.{MethodName}
use Rattle.sqz_code.specs.declared.operation.Operation.{Operation}
use Rattle.sqz_code.specs.declared.operation.Operation.TheVariants.{Send, SendSuper, SendSpecial}
use Rattle.sqz_code.specs.declared.instruction.Instruction.{Instruction}
use Rattle.sqz_code.specs.Instructions.{IsDecodingOf}
use Rattle.sqz_code.specs.Parts.{bytecodes_in, literals_in}
use Rattle.sqz_code.specs.Joins.{AreJoined}

-- the field of the special objects array that points to the array of special selectors
abbrev pub special_selectors_field : ℕ
special_selectors_field = 23

-- the symbol of the special selector with an index: the array has two fields for each
abbrev pub special_selector : Memory → ℕ → Option ℕ
special_selector memory index =
    option_and_then (λ array. target memory array (Field (2 * index)))
    (option_and_then (λ special. target memory special (Field special_selectors_field)) (find memory memory.special))

-- the object that an instruction of a method sends as its selector
abbrev pub selector_of : Memory → ℕ → Operation → Option ℕ
selector_of memory method (Send literal arguments) = target memory method (Field (literal + 1))
selector_of memory method (SendSuper literal arguments) = target memory method (Field (literal + 1))
selector_of memory method (SendSpecial index) = special_selector memory index
selector_of memory method _ = None

-- the selectors that these instructions of a method send, in their order
abbrev pub sent_by : Memory → ℕ → List Instruction → List ℕ
sent_by memory method instructions = filter_map (λ instruction. selector_of memory method instruction.operation) instructions

-- the selectors that a method sends, in the order of its instructions
pub record AreSent (memory : Memory) (method : ℕ) (sent : List ℕ) : Type 0 where
  pub instructions : List Instruction
  pub decoded : IsDecodingOf (bytecodes_in memory.order (chunk_words memory method)) 0 instructions
  pub are : sent ≡ sent_by memory method instructions

-- the objects that its literals point to, in their order
abbrev pub literal_objects : Memory → ℕ → List ℕ
literal_objects memory method = filter_map (named_by memory) (literals_in (chunk_words memory method))

-- these, and the selectors that it sends
pub record AreMentioned (memory : Memory) (method : ℕ) (mentioned : List ℕ) : Type 0 where
  pub sent : List ℕ
  pub are_sent : AreSent memory method sent
  pub are : mentioned ≡ literal_objects memory method ++ sent

-- a method mentions an object
pub record Mentions (memory : Memory) (method object : ℕ) : Type 0 where
  pub mentioned : List ℕ
  pub are_mentioned : AreMentioned memory method mentioned
  pub has : Contains mentioned object

-- a method mentions one of some objects
pub record MentionsOne (memory : Memory) (objects : List Bool) (method : ℕ) : Type 0 where
  pub object : ℕ
  pub is_one : is_marked objects object ≡ true
  pub mentions : Mentions memory method object

-- the objects that some methods mention, one method after the other
abbrev pub AreAllMentioned : Memory → List MethodName → List ℕ → Type 0
AreAllMentioned memory names mentioned = AreJoined (λ name its. AreMentioned memory name.method its) names mentioned

-- the marks of the objects that some methods mention
pub record AreMentionMarks (memory : Memory) (names : List MethodName) (marks : List Bool) : Type 0 where
  pub mentioned : List ℕ
  pub are_mentioned : AreAllMentioned memory names mentioned
  pub listed : MarksListed (object_count memory) mentioned marks
