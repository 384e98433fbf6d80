use Rattle.std.proofs.Common.{◌≡◌, ◌<◌, All, take}
use Rattle.sqz_image.specs.Objects.{object_count}
use Rattle.sqz_dominators.specs.Why.{why_steps}
use Rattle.sqz_dominators.proofs.WhyLemmas.{end_of}
use Rattle.sqz_dominators.proofs.why.steps_of.Given as goal

abbrev pub invariant-loop-step : goal.invariant-loop-step
invariant-loop-step l =
    record {
      rows : l.rows.items ≡ why_steps l.heap l.dominators l.start (take l.step-index l.steps);
      owner : l.owner ≡ end_of l.start (take l.step-index l.steps);
      inside : l.owner < object_count l.heap;
      each : All (λ row. row.object < object_count l.heap) l.rows.items;
    }
