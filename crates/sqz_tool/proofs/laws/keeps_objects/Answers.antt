use Rattle.sqz_tool.proofs.CorrespondenceLemmas.{HasMovedObjects-accepted}
use Rattle.sqz_tool.proofs.FixedPointLemmas.{IsFixedPoint-accepted}
use Rattle.sqz_tool.proofs.laws.keeps_objects.Goals as goal

pub returns-clause-held : goal.returns-clause-held
returns-clause-held c weak file image marks bytes accepted =
    (IsFixedPoint-accepted weak file image marks bytes accepted).accepted.holds

pub returns-clause-moved : goal.returns-clause-moved
returns-clause-moved c = HasMovedObjects-accepted
