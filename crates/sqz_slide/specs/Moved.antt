-- An object after the move: each slot that points to a marked object holds that object's new
-- address, and each weak slot that points to another object holds nil's.
use Rattle.std.specs.Prelude.{ℕ, ◌+◌, ◌%◌, Bool, true, false, if◌then◌else◌, List, [], ◌∷◌, ◌++◌, map, take, drop}
use Rattle.std.specs.Prelude.{Option, Some, None, unwrap_or, option_and_then}
use Rattle.sqz_object.specs.declared.chunk.Kind.{Kind}
use Rattle.sqz_object.specs.declared.chunk.Kind.TheVariants.{Three, Two, Free, Short}
use Rattle.sqz_object.specs.Chunk.{chunk_kind, fields}
use Rattle.sqz_image.specs.Objects.{Memory}
use Rattle.sqz_trace.specs.declared.weak.Weak.{Weak}
use Rattle.sqz_trace.specs.Slots.{class_address}
use Rattle.sqz_trace.specs.Targets.{named_by}
use Rattle.sqz_trace.specs.Strong.{is_weak, strong}
use Rattle.sqz_trace.specs.Edges.{nil}
use Rattle.sqz_trace.specs.Graph.{is_marked}
use Rattle.sqz_trace.specs.Live.{live}
use Rattle.sqz_regions.specs.Places.{place}
use Rattle.sqz_regions.specs.Bases.{place_if_marked}

-- the new address of the target, if the target is marked; else the word unchanged
abbrev pub new_address : Memory → List Bool → ℕ → Option ℕ → ℕ
new_address memory marks word None = word
new_address memory marks word (Some index) =
    if is_marked marks index then place memory marks index else word

-- a strong field after the move
abbrev pub moved_field : Memory → List Bool → ℕ → ℕ
moved_field memory marks word = new_address memory marks word (named_by memory word)

-- the new address of nil, if nil is marked
abbrev pub nil_place : Memory → Weak → List Bool → Option ℕ
nil_place memory weak marks = option_and_then (place_if_marked memory marks) (nil memory weak)

-- the new address of the target, if the target is marked; else the other address, if there is one;
-- the word unchanged if there is no target
abbrev pub address_or : Memory → List Bool → Option ℕ → ℕ → Option ℕ → ℕ
address_or memory marks other word None = word
address_or memory marks other word (Some index) =
    if is_marked marks index then place memory marks index else unwrap_or other word

-- a weak field after the move: if its target is not marked, it points to nil
abbrev pub moved_weak : Memory → Weak → List Bool → ℕ → ℕ
moved_weak memory weak marks word = address_or memory marks (nil_place memory weak marks) word (named_by memory word)

-- a class word after the move: the low two bits stay
abbrev pub moved_class : Memory → List Bool → ℕ → ℕ
moved_class memory marks word =
    new_address memory marks (class_address word) (named_by memory (class_address word)) + word % 4

-- the header words of a kind; only the class word changes
abbrev pub moved_header : Memory → List Bool → Kind → List ℕ → List ℕ
moved_header memory marks Three (size ∷ class ∷ base ∷ _) =
    size ∷ moved_class memory marks class ∷ base ∷ []
moved_header memory marks Two (class ∷ base ∷ _) = moved_class memory marks class ∷ base ∷ []
moved_header memory marks Free (free ∷ _) = free ∷ []
moved_header memory marks Short (base ∷ _) = base ∷ []
moved_header memory marks _ _ = []

-- the fields after the strong ones, after the move: in an object with weak slots these are weak
-- slots, in another they are not slots
abbrev pub moved_others : Memory → Weak → List Bool → Bool → List ℕ → List ℕ
moved_others memory weak marks true others = map (moved_weak memory weak marks) others
moved_others memory weak marks false others = others

-- the slots among the fields change, and the words after them do not
abbrev pub moved_fields : Memory → Weak → List Bool → List ℕ → List ℕ
moved_fields memory weak marks chunk =
    map (moved_field memory marks) (take (strong memory weak chunk) (fields chunk))
    ++ moved_others memory weak marks (is_weak weak chunk) (drop (strong memory weak chunk) (fields chunk))

-- the words of an object after the move
abbrev pub moved : Memory → Weak → List Bool → List ℕ → List ℕ
moved memory weak marks chunk =
    moved_header memory marks (chunk_kind chunk) chunk ++ moved_fields memory weak marks chunk

-- the words of each live object after the move, in order
abbrev pub moved_objects : Memory → Weak → List Bool → List (List ℕ)
moved_objects memory weak marks = map (λ object. moved memory weak marks object.chunk) (live memory marks)
