use Rattle.std.proofs.Common.{◌≢◌, ◌<◌, ◌+◌, ◌-◌, ◌*◌, ℕ}
use Rattle.sqz_image.specs.Objects.{object_count}
use Rattle.sqz_trace.specs.declared.shades.Shade.TheVariants.{Grey}
use Rattle.sqz_trace.specs.Shades.{AreLawfulOf, shade_at}
use Rattle.sqz_trace.proofs.FinishingLemmas.{unfinished_count}
use Rattle.sqz_trace.proofs.finishing.finish.Given as goal

abbrev pub invariant-loop-object : goal.invariant-loop-object
invariant-loop-object l =
    record {
      lawful : AreLawfulOf l.heap l.weak l.shades.items;
      before : (index : ℕ) → index < l.object → shade_at l.shades.items index ≢ Grey;
    }

abbrev pub decreases-loop-object : goal.decreases-loop-object
decreases-loop-object l =
    unfinished_count l.shades.items * (object_count l.heap + 1) + (object_count l.heap - l.object)
