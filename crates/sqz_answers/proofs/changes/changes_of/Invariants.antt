use Rattle.sqz_answers.proofs.ChangeLemmas.{IsListing}
use Rattle.sqz_answers.proofs.changes.changes_of.Given as goal

abbrev pub invariant-loop-name : goal.invariant-loop-name
invariant-loop-name g l = IsListing g.V.PartialEq.eq l.old l.new l.initial.name-iterator l.name-iterator l.changes.items
