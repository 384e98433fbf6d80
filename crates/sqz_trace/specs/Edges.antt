-- The edges from one object to others: its strong slots.
use Rattle.std.specs.Prelude.{◌≡◌, ℕ, ◌-◌, ◌<◌, List, ◌∷◌, Contains, Option, Some, option_and_then}
use Rattle.sqz_image.specs.declared.slot.Slot.{Slot}
use Rattle.sqz_image.specs.declared.slot.Slot.TheVariants.{ClassWord, Field}
use Rattle.sqz_image.specs.Objects.{Memory, object_count, chunk_words, find}
use Rattle.sqz_trace.specs.declared.weak.Weak.{Weak}
use Rattle.sqz_trace.specs.Slots.{field_slots}
use Rattle.sqz_trace.specs.Strong.{strong, strong_by_word}
use Rattle.sqz_trace.specs.Targets.{named_among}

-- the outgoing edges of an object: the memory, the words of the object, and the number of its
-- strong fields
pub record OutEdges : Type 0 where
  pub memory : Memory
  pub words : List ℕ
  pub strong : ℕ

abbrev pub out_edges : Memory → Weak → ℕ → OutEdges
out_edges memory weak index = record {
  memory = memory;
  words = chunk_words memory index;
  strong = strong memory weak (chunk_words memory index);
}

-- the outgoing edges, taking as the object's class what its class word points to
abbrev pub edges_by_word : Memory → Weak → ℕ → OutEdges
edges_by_word memory weak index = record {
  memory = memory;
  words = chunk_words memory index;
  strong = strong_by_word memory weak (chunk_words memory index);
}

-- the slots from this one on: the class word comes first, and then the strong fields in order
abbrev pub slots_from : Slot → ℕ → List Slot
slots_from ClassWord strong = ClassWord ∷ field_slots 0 strong
slots_from (Field index) strong = field_slots index (strong - index)

-- the strong slots of an object. The class word is one of them even if the header has none: then
-- it points to no object
abbrev pub strong_slots : OutEdges → List Slot
strong_slots edges = slots_from ClassWord edges.strong

-- the object that a strong slot points to; None for a weak slot
abbrev pub edge_target : OutEdges → Slot → Option ℕ
edge_target edges slot = named_among edges.memory edges.strong edges.words slot

-- the object that a strong slot of the object with this index points to
abbrev pub strong_target : Memory → Weak → ℕ → Slot → Option ℕ
strong_target memory weak index slot = edge_target (out_edges memory weak index) slot

-- one of these slots points to the object
pub record IsTargetAmong (edges : OutEdges) (slots : List Slot) (index : ℕ) : Type 0 where
  pub slot : Slot
  pub listed : Contains slots slot
  pub names : edge_target edges slot ≡ Some index

-- a strong slot of object `from` points to object `to`
pub record HasEdge (memory : Memory) (weak : Weak) (from to : ℕ) : Type 0 where
  pub inside : from < object_count memory
  pub slot : Slot
  pub names : strong_target memory weak from slot ≡ Some to

-- nil, which field 0 of the special objects array points to
abbrev pub nil : Memory → Weak → Option ℕ
nil memory weak = option_and_then (λ special. strong_target memory weak special (Field 0)) (find memory memory.special)
