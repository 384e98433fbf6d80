use Rattle.std.proofs.Common.{◌≡◌, ℕ, zero, suc, length, refl, sym, ap, arith}
use Rattle.sqz_trace.specs.Slots.{field_slots}
use Rattle.sqz_trace.specs.Edges.{OutEdges, strong_slots}
use Rattle.sqz_trace.proofs.out_edges.OutEdges.slot_bounds.Goals as goal

-- there are as many slots of fields as fields
length-field_slots : (first count : ℕ) → length (field_slots first count) ≡ count
length-field_slots first zero = refl
length-field_slots first (suc count) = ap suc (length-field_slots (suc first) count)

pub returns : goal.returns
returns c =
    let slots = ap (λ (edges : OutEdges). length (strong_slots edges)) c.self.view_is in
    omega (
      arith,
      sym slots,
      length-field_slots 0 c.self.inside.strong,
      c.self.invariant,
      ap length c.fields-fields.ensures.fields,
      c.fields-fields.ensures.few,
    )
