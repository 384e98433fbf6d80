use Rattle.std.proofs.Common.{◌≡◌, ◌*◌, ◌<◌, ◌^◌, List, subst, arith}
use Rattle.std.specs.Prelude.{sum_by}
use Rattle.std.proofs.lemmas.List.{take_all}
use Rattle.std.proofs.lemmas.List.Sums.{sum_by_more}
use Rattle.sqz_damage.specs.declared.gap.Gap.{Gap}
use Rattle.sqz_damage.proofs.places.gaps.bytes_in_gaps.Goals as goal

pub loop-gap-preserved : goal.loop-gap-preserved
loop-gap-preserved c few =
    let more = sum_by_more (λ (gap : Gap). 4 * gap.words) c.args.gaps.now c.loop-gap.gap-index
    record { first = 0; words = 0 } c.loop-gap-test.true in
    let before = c.loop-gap.invariant (omega (arith, more, few)) in
    omega (arith, more, few, before, c.from.ensures, c.saturating_add-bytes.ensures)

pub returns : goal.returns
returns c few =
    subst (λ (gaps : List Gap).
    sum_by (λ gap. 4 * gap.words) gaps < 2 ^ 64 → c.loop-gap.bytes ≡ sum_by (λ gap. 4 * gap.words) gaps)
    (take_all c.loop-gap.gap-index c.args.gaps.now c.loop-gap-test.false) c.loop-gap.invariant few
