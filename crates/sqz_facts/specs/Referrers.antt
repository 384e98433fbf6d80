-- The strong slots of marked objects that point to an object.
use Rattle.std.specs.Prelude.{ℕ, nat_eq, Bool, if◌then◌else◌, List, [], map, Some}
use Rattle.std.specs.List.{filter, flat_map, range_with_len}
use Rattle.std.specs.Option.{option_eq}
use Rattle.sqz_image.specs.declared.slot.Slot.{Slot}
use Rattle.sqz_image.specs.Objects.{Memory, object_count}
use Rattle.sqz_trace.specs.declared.weak.Weak.{Weak}
use Rattle.sqz_trace.specs.Edges.{OutEdges, out_edges, edge_target, strong_slots}
use Rattle.sqz_trace.specs.Graph.{is_marked}
use Rattle.sqz_facts.specs.declared.referrers.Referrer.{Referrer}

-- whether a strong slot points to the object
abbrev pub points_to : OutEdges → ℕ → Slot → Bool
points_to edges to slot = option_eq nat_eq (edge_target edges slot) (Some to)

-- those of these slots of an object that point to another one, in order
abbrev pub referrers_among : OutEdges → ℕ → ℕ → List Slot → List Referrer
referrers_among edges from to slots = map (λ slot. record { object = from; slot = slot }) (filter (points_to edges to) slots)

-- the strong slots of an object that point to another one, if it is marked
abbrev pub referrers_from : Memory → Weak → List Bool → ℕ → ℕ → List Referrer
referrers_from memory weak marks to from =
    if is_marked marks from
    then referrers_among (out_edges memory weak from) from to (strong_slots (out_edges memory weak from))
    else []

-- those of all marked objects, by object and then by slot; the class word comes before the fields
abbrev pub referrers : Memory → Weak → List Bool → ℕ → List Referrer
referrers memory weak marks to =
    flat_map (referrers_from memory weak marks to) (range_with_len 0 (object_count memory))
