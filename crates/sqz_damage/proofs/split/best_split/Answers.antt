use Rattle.std.proofs.Common.{drop, arith}
use Rattle.std.proofs.lemmas.List.{length-drop}
use Rattle.sqz_damage.proofs.SplitLemmas.{staying-le, moving-le}
use Rattle.sqz_damage.proofs.split.best_split.Goals as goal

pub overflow_add-best : goal.overflow_add-best
overflow_add-best c =
    let fits = c.args.fits.now in
    let best = c.loop-split.best in
    let split = c.before-split.result in
    omega (
      arith,
      c.loop-split.invariant.1.is_split.moves_are,
      moving-le (drop best.at fits),
      length-drop best.at fits,
      c.before-split.ensures.split.stays_are,
      staying-le (drop split.at fits),
      length-drop split.at fits,
      c.requires,
    )

pub overflow_add-split : goal.overflow_add-split
overflow_add-split c =
    let fits = c.args.fits.now in
    let best = c.loop-split.best in
    let split = c.before-split.result in
    omega (
      arith,
      c.loop-split.invariant.1.is_split.stays_are,
      staying-le (drop best.at fits),
      length-drop best.at fits,
      c.before-split.ensures.split.moves_are,
      moving-le (drop split.at fits),
      length-drop split.at fits,
      c.requires,
    )
