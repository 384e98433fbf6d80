use Rattle.std.proofs.Common.{◌∙◌, sym, inl, inr}
use Rattle.sqz_trace.specs.Edges.{strong_slots}
use Rattle.sqz_trace.proofs.TargetLemmas.{IsTargetAmong-next, slots_at}
use Rattle.sqz_dominators.proofs.PathLemmas.{is_another, is_the_one}
use Rattle.sqz_dominators.proofs.slots_between.slot_between.Goals as goal

pub loop-slot-preserved : goal.loop-slot-preserved
loop-slot-preserved c target =
    elim (IsTargetAmong-next c.args.edges.now c.loop-slot.yielded c.in-Some.slot c.args.to target) [
      | inl before ↦ c.loop-slot.invariant before
      | inr now ↦ is_another _ c.args.to (sym c.eq.ensures ∙ c.if-eq.false) (c.target.ensures.target ∙ now)
    ]

pub returns-then-eq-clause-first : goal.returns-then-eq-clause-first
returns-then-eq-clause-first c =
    record {
      names = sym c.target.ensures.target ∙ is_the_one c.target.result c.args.to (sym c.eq.ensures ∙ c.if-eq.true);
      before = c.loop-slot.yielded;
      after = c.next.new.self;
      slots =
          slots_at (strong_slots c.args.edges.now) _
          (c.into_iter-slot-iterator.ensures.into_iter_gives ∙ c.slots-slot-items.ensures) c.loop-slot.yielded _ c.loop-slot.yielded_by
          c.in-Some.slot c.next.new.self c.in-Some.ensures.steps;
      none = c.loop-slot.invariant;
    }
