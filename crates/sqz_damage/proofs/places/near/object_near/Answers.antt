use Rattle.sqz_damage.proofs.FoundLemmas.{find-inside}
use Rattle.sqz_damage.proofs.places.near.object_near.Goals as goal

pub if_asked-requires : goal.if_asked-requires
if_asked-requires c = find-inside c.args.heap.now _ c.find.result c.find.ensures
