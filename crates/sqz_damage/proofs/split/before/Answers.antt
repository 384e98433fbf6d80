use Rattle.std.proofs.Common.{drop, arith}
use Rattle.std.proofs.lemmas.List.{length-drop}
use Rattle.sqz_damage.proofs.SplitLemmas.{staying-le, moving-le}
use Rattle.sqz_damage.proofs.split.before.Goals as goal

pub overflow_add-result : goal.overflow_add-result
overflow_add-result c =
    let after = drop c.args.split.at c.args.fits.now in
    omega (arith, c.requires.split.stays_are, staying-le after, length-drop c.args.split.at c.args.fits.now, c.requires.few, c.one_if.ensures.few)

pub overflow_add-result-2 : goal.overflow_add-result-2
overflow_add-result-2 c =
    let after = drop c.args.split.at c.args.fits.now in
    omega (arith, c.requires.split.moves_are, moving-le after, length-drop c.args.split.at c.args.fits.now, c.requires.few, c.one_if-2.ensures.few)
