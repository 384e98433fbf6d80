use Rattle.std.proofs.Common.{◌∙◌, subst, arith}
use Rattle.std.specs.Bool.{OnTrue}
use Rattle.sqz_trace.specs.Edges.{strong_slots}
use Rattle.sqz_trace.specs.Soundness.{IsGood}
use Rattle.sqz_trace.proofs.AvoidingLemmas.{MarksTargets-next_slot}
use Rattle.sqz_trace.proofs.MarkingLemmas.{MarksTargets-none}
use Rattle.sqz_trace.proofs.SoundMarkingLemmas.{IsGood-start, IsGood-next}
use Rattle.sqz_trace.proofs.TargetLemmas.{slots_at_end}
use Rattle.sqz_trace.proofs.marking.mark_targets.Goals as goal

pub loop-slot-init : goal.loop-slot-init
loop-slot-init g c =
    record {
      marks = MarksTargets-none _ _ _ (λ index target. absurd (omega (arith, target.0.listed.1)));
      good = IsGood-start c.args.edges.now c.is_well_formed-is_good.result c.is_well_formed-is_good.ensures;
    }

pub loop-slot-preserved : goal.loop-slot-preserved
loop-slot-preserved g c =
    record {
      marks = MarksTargets-next_slot (g.A.Avoided.set c.args.avoided.now) c.args.edges.now _ _ _ c.args.worklist.now.items _ _ c.loop-slot.yielded
          c.in-Some.slot c.loop-slot.invariant.marks c.in_ok-is_good.ensures.marks;
      good = IsGood-next c.args.edges.now c.loop-slot.yielded c.in-Some.slot _ _ c.loop-slot.invariant.good c.in_ok-is_good.ensures.good;
    }

pub returns-clause-good : goal.returns-clause-good
returns-clause-good g c =
    let all =
    slots_at_end (strong_slots c.args.edges.now) _ (c.into_iter-slot-iterator.ensures.into_iter_gives ∙ c.slots-slot-items.ensures)
    c.loop-slot.yielded _ c.loop-slot.yielded_by _ _ c.in-None.is c.next.ensures.steps in
    subst (λ slots. OnTrue c.loop-slot.is_good (IsGood c.args.edges.now slots)) all c.loop-slot.invariant.good
