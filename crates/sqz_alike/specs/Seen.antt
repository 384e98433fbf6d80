-- The objects of an image as they are compared with those of another.
use Rattle.std.specs.Prelude.{ℕ, Bool, List, if◌then◌else◌, Option, Some, None}
use Rattle.sqz_image.specs.declared.slot.Slot.{Slot}
use Rattle.sqz_image.specs.Objects.{Memory}
use Rattle.sqz_trace.specs.declared.live_objects.Live.{Live}
use Rattle.sqz_trace.specs.declared.weak.Weak.{Weak}
use Rattle.sqz_trace.specs.Edges.{nil}
use Rattle.sqz_trace.specs.Graph.{is_marked}
use Rattle.sqz_trace.specs.Targets.{target}

-- the memory, the policy on weak slots, and one mark per object: the live objects are marked
pub record Seen : Type 0 where
  pub memory : Memory
  pub weak : Weak
  pub marks : List Bool

abbrev pub seen : Live → Seen
seen live = record { memory = live.graph.heap.now; weak = live.graph.weak; marks = live.marks }

-- an object that a slot points to as it is seen: nil in place of a dead object
abbrev pub live_or_nil : Option ℕ → List Bool → Option ℕ → Option ℕ
live_or_nil nil marks None = None
live_or_nil nil marks (Some object) = if is_marked marks object then Some object else nil

-- the object that a slot of an object leads to
abbrev pub seen_target : Seen → ℕ → Slot → Option ℕ
seen_target seen object slot = live_or_nil (nil seen.memory seen.weak) seen.marks (target seen.memory object slot)
