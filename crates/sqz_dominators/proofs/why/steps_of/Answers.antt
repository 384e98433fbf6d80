use Rattle.std.proofs.Common.{◌<◌, sym, ap, ◌∙◌}
use Rattle.std.proofs.lemmas.List.Elements.{All-push}
use Rattle.sqz_image.specs.Objects.{object_count}
use Rattle.sqz_dominators.specs.declared.retained.Retained.{Retained}
use Rattle.sqz_dominators.specs.declared.why.WhyStep.{WhyStep}
use Rattle.sqz_dominators.proofs.WhyLemmas.{end_of-more, why_steps-more, same_step}
use Rattle.sqz_dominators.proofs.why.steps_of.Goals as goal

pub loop-step-preserved : goal.loop-step-preserved
loop-step-preserved c =
    let steps = c.args.steps.now in
    let i = c.loop-step.step-index in
    let inside = c.requires.inside i _ c.loop-step-test.true in
    let IsInside : WhyStep → Type 0 = λ row. row.object < object_count c.args.heap.now in
    record {
      rows = c.in_ok-push.ensures.items
          ∙ why_steps-more c.args.start steps i _ c.loop-step-test.true c.args.heap.now c.args.dominators.now c.loop-step.owner _ c.loop-step.rows.items
          c.loop-step.invariant.owner
          (same_step _ _ _ c.is_weak_slot.ensures (ap (λ (r : Retained). r.bytes) c.retained.ensures)) c.loop-step.invariant.rows;
      owner = sym (end_of-more c.args.start steps i _ c.loop-step-test.true);
      inside = inside;
      each = rw c.in_ok-push.ensures.items (All-push IsInside c.loop-step.rows.items _ c.loop-step.invariant.each inside);
    }
