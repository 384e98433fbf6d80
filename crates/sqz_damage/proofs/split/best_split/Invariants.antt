use Rattle.sqz_damage.proofs.SplitLemmas.{IsBestFrom}
use Rattle.sqz_damage.specs.Counting.{IsSplit}
use Rattle.sqz_damage.proofs.split.best_split.Given as goal

abbrev pub invariant-loop-split : goal.invariant-loop-split
invariant-loop-split l = IsSplit l.fits l.split × IsBestFrom l.fits l.split.at l.best

abbrev pub decreases-loop-split : goal.decreases-loop-split
decreases-loop-split l = l.split.at
