use Rattle.std.proofs.Common.{◌∙◌, arith}
use Rattle.sqz_trace.specs.Edges.{strong_slots, IsTargetAmong}
use Rattle.sqz_trace.proofs.TargetLemmas.{slots_at_end}
use Rattle.sqz_trace.proofs.GreyingLemmas.{Greys-next_slot, Blackens-after_slots, Blackens-edges}
use Rattle.sqz_trace.proofs.TurnLemmas.{IsListed-then, IsListed-room, IsListed-blackened}
use Rattle.sqz_trace.proofs.turns.blacken_listed.Goals as goal

pub loop-slot-preserved : goal.loop-slot-preserved
loop-slot-preserved c =
    let so_far = c.loop-slot.invariant in
    let step = c.grey_listed.ensures in
    record {
      greyed = Greys-next_slot c.of-edges.result c.loop-slot.yielded c.in-Some.slot _ _ _ so_far.greyed step.greyed;
      listed = IsListed-then _ _ _ _ _ so_far.greyed so_far.listed _ _ _ step.greyed step.listed;
      capacity = step.capacity ∙ so_far.capacity;
    }

pub returns-clause-blackened : goal.returns-clause-blackened
returns-clause-blackened c =
    let all =
    slots_at_end (strong_slots c.of-edges.result) _ (c.into_iter-slot-iterator.ensures.into_iter_gives ∙ c.slots-slot-items.ensures)
    c.loop-slot.yielded _ c.loop-slot.yielded_by _ _ c.in-None.is c.next.ensures.steps in
    Blackens-edges c.of-edges.result c.args.heap.now c.args.weak c.args.object c.of-edges.ensures c.requires.object
    c.args.shades.now _
    (Blackens-after_slots c.of-edges.result c.args.object c.loop-slot.yielded all c.args.shades.now _
    (omega (arith, c.requires.sized, c.requires.object)) c.loop-slot.invariant.greyed)

pub returns-clause-listed : goal.returns-clause-listed
returns-clause-listed c =
    let so_far = c.loop-slot.invariant in
    let IsTarget = IsTargetAmong c.of-edges.result c.loop-slot.yielded in
    IsListed-blackened IsTarget c.args.shades.now _ _ _ so_far.greyed so_far.listed c.args.object
    (omega (arith, so_far.greyed.sized, c.requires.sized, c.requires.object)) c.requires.grey

pub returns-clause-room : goal.returns-clause-room
returns-clause-room c =
    let so_far = c.loop-slot.invariant in
    omega (arith, c.requires.room, so_far.capacity, IsListed-room _ _ _ _ (returns-clause-listed c))
