use Rattle.std.proofs.Common.{drop, arith}
use Rattle.std.proofs.lemmas.List.{length-drop}
use Rattle.sqz_damage.proofs.SplitLemmas.{staying-le}
use Rattle.sqz_damage.proofs.split.place_of.Goals as goal

pub overflow_add-split : goal.overflow_add-split
overflow_add-split c =
    let split = c.best_split-split.result in
    omega (
      arith,
      c.best_split-split.ensures.is_split.stays_are,
      staying-le (drop split.at c.args.fits.now),
      length-drop split.at c.args.fits.now,
      c.requires,
    )
