use Rattle.sqz_changes.proofs.PathLemmas.{begins_at_owner}
use Rattle.sqz_changes.proofs.laws.paths_begin_at_owners.Goals as goal

pub returns : goal.returns
returns c = begins_at_owner
