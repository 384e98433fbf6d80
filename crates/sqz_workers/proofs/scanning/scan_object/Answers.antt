use Rattle.std.proofs.Common.{◌≡◌, length, sym, ap, subst, ◌∙◌, arith}
use Rattle.std.proofs.lemmas.List.{length_push}
use Rattle.std.proofs.lemmas.Iterator.Consumers.{YieldsList-from_first, YieldsList-turn}
use Rattle.sqz_trace.specs.Edges.{strong_slots}
use Rattle.sqz_trace.proofs.TargetLemmas.{slots_at_end, IsTargetAmong-edge}
use Rattle.sqz_marks.specs.Core.{HasBlackened}
use Rattle.sqz_marks.specs.Table.{HeldPass}
use Rattle.sqz_marks.proofs.TimesLemmas.{times-same}
use Rattle.sqz_workers.specs.Gains.{HasGained}
use Rattle.sqz_workers.proofs.GainLemmas.{HasGained-then, HasGained-before, HasGained-blackened, HasSeenAmong-next}
use Rattle.sqz_workers.proofs.scanning.scan_object.Given.{Over}
use Rattle.sqz_workers.proofs.scanning.scan_object.Goals as goal
use Rattle.sqz_workers.proofs.scanning.scan_object.Goals.{In-None}

pub claim_slot-won-requires-clause-seen : goal.claim_slot-won-requires-clause-seen
claim_slot-won-requires-clause-seen g c =
    record {
      object = c.args.object;
      inside = c.requires.inside;
      seen = c.loop-slot.invariant.gained.seen c.args.object c.requires.seen;
      its = c.edges-edges.ensures;
    }

pub loop-slot-preserved : goal.loop-slot-preserved
loop-slot-preserved g c =
    let before = c.loop-slot in let after = c.claim_slot-won in
    record {
      gained =
          HasGained-then c.args.pass.now before.pass after.new.pass before.won after.result before.invariant.gained after.ensures.gained;
      few = omega (arith, before.invariant.few, after.ensures.one, length_push before.yielded c.in-Some.slot);
      seen = HasSeenAmong-next c.edges-edges.result before.yielded c.in-Some.slot before.pass.view after.new.pass.view
          before.invariant.seen after.ensures.gained.seen after.ensures.seen;
      room = after.ensures.room ∙ before.invariant.room;
    }

pub overflow_add-won : goal.overflow_add-won
overflow_add-won g c =
    let road =
    YieldsList-from_first (λ slot. slot) (λ rest. rest) (strong_slots c.edges-edges.result)
    (c.into_iter-slot-iterator.ensures.into_iter_gives ∙ c.slots-slot-items.ensures) in
    let turn =
    YieldsList-turn road c.loop-slot.yielded _ c.loop-slot.yielded_by _ _ c.in-Some.slot c.in-Some.is c.next.ensures.steps in
    omega (arith, c.loop-slot.invariant.few, c.claim_slot-won.ensures.one, turn.0, c.slot_bounds.ensures)

-- the loop went over all slots
all_slots : (g : Over) (c : In-None g) → c.loop-slot.yielded ≡ strong_slots c.edges-edges.result
all_slots g c =
    slots_at_end (strong_slots c.edges-edges.result) _
    (c.into_iter-slot-iterator.ensures.into_iter_gives ∙ c.slots-slot-items.ensures)
    c.loop-slot.yielded _ c.loop-slot.yielded_by _ _ c.in-None.is c.next.ensures.steps

pub returns-clause-few : goal.returns-clause-few
returns-clause-few g c =
    let all = all_slots g (goal.at.returns-clause-few g c).In-None in
    omega (arith, c.loop-slot.invariant.few, ap length all, c.slot_bounds.ensures)

pub blacken-requires-clause-targets : goal.blacken-requires-clause-targets
blacken-requires-clause-targets g c target edge =
    let table = c.args.table.now in let edges = c.edges-edges.result in
    let all = all_slots g (goal.at.blacken-requires-clause-targets g c).In-None in
    c.loop-slot.invariant.seen target
    (IsTargetAmong-edge table.heap.memory table.weak c.args.object edges c.edges-edges.ensures c.loop-slot.yielded all target edge)

pub returns-clause-gained : goal.returns-clause-gained
returns-clause-gained g c =
    let pass = c.loop-slot.pass in
    HasGained-before c.args.pass.now pass c.blacken.new.pass c.loop-slot.won c.loop-slot.invariant.gained
    (subst (λ (p : HeldPass). HasGained pass p 0) (sym c.blacken.ensures.step) (HasGained-blackened pass c.args.object))

pub returns-clause-black : goal.returns-clause-black
returns-clause-black g c =
    subst (λ (p : HeldPass). HasBlackened p.view c.args.object) (sym c.blacken.ensures.step)
    (omega (arith, times-same c.args.object c.loop-slot.pass.view.blackened))
