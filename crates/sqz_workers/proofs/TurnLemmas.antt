-- The number of white objects when marking begins; and the law of shades under one name of the
-- object memory and another.
-- Serves `locked_marking::LockedMarking::new` and `locked_marking::LockedMarking::turn`.
use Rattle.std.proofs.Common.{◌≡◌, ℕ, zero, suc, ◌+◌, ◌<◌, List, set, refl, subst, arith}
use Rattle.std.specs.Prelude.{replicate}
use Rattle.sqz_image.specs.Objects.{Memory}
use Rattle.sqz_trace.specs.declared.shades.Shade.{Shade}
use Rattle.sqz_trace.specs.declared.shades.Shade.TheVariants.{White, Grey}
use Rattle.sqz_trace.specs.declared.weak.Weak.{Weak}
use Rattle.sqz_trace.specs.Shades.{AreLawfulOf}
use Rattle.sqz_trace.specs.Greying.{white_count}

white_count-replicate : (count : ℕ) → white_count (replicate count White) ≡ count
white_count-replicate zero = refl
white_count-replicate (suc count) = omega (arith, white_count-replicate count)

-- all but the one at which it begins
pub white_count-first : (count start : ℕ) → start < count → white_count (set (replicate count White) start Grey) + 1 ≡ count
white_count-first zero start lt = absurd (omega arith)
white_count-first (suc count) zero lt = omega (arith, white_count-replicate count)
white_count-first (suc count) (suc start) lt = omega (arith, white_count-first count start (omega arith))

-- the law holds of the same memory and policy
pub AreLawfulOf-same : (shades : List Shade) {from to : Memory} {old new : Weak} → from ≡ to → old ≡ new
    → AreLawfulOf from old shades → AreLawfulOf to new shades
AreLawfulOf-same shades {from} {to} {old} {new} memory weak law =
    subst (λ (w : Weak). AreLawfulOf to w shades) weak (subst (λ (m : Memory). AreLawfulOf m old shades) memory law)
