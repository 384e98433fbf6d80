use Rattle.std.proofs.Common.{◌+◌, ◌∙◌}
use Rattle.sqz_trace.specs.Edges.{strong_slots}
use Rattle.sqz_trace.proofs.TargetLemmas.{slots_at_end}
use Rattle.sqz_trace.proofs.GreyingLemmas.{Greys-next_slot, Blackens-after_slots, IsLowest-then}
use Rattle.sqz_trace.proofs.finishing.blacken.Goals as goal

pub loop-slot-preserved : goal.loop-slot-preserved
loop-slot-preserved c =
    let so_far = c.loop-slot.invariant in
    let step = c.grey_target-lowest.ensures in
    record {
      greyed = Greys-next_slot c.args.edges.now c.loop-slot.yielded c.in-Some.slot _ _ _ so_far.greyed step.greyed;
      lowest = IsLowest-then (c.args.object + 1) _ _ _ so_far.lowest _ _ _ _ so_far.greyed step.greyed step.lowest;
    }

pub returns-clause-blackened : goal.returns-clause-blackened
returns-clause-blackened c =
    let all =
    slots_at_end (strong_slots c.args.edges.now) _ (c.into_iter-slot-iterator.ensures.into_iter_gives ∙ c.slots-slot-items.ensures)
    c.loop-slot.yielded _ c.loop-slot.yielded_by _ _ c.in-None.is c.next.ensures.steps in
    Blackens-after_slots c.args.edges.now c.args.object c.loop-slot.yielded all c.args.shades.now _ c.requires.inside
    c.loop-slot.invariant.greyed
