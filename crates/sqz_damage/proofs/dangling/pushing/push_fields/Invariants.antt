use Rattle.sqz_image.specs.Objects.{object_at, chunk_words}
use Rattle.sqz_trace.specs.Slots.{field_slots}
use Rattle.sqz_damage.specs.Dangling.{dangling_among}
use Rattle.sqz_damage.specs.Pushed.{ArePushed}
use Rattle.sqz_damage.proofs.dangling.pushing.push_fields.Given as goal

abbrev pub invariant-loop-index : goal.invariant-loop-index
invariant-loop-index l =
    ArePushed l.nil (object_at l.graph.heap.now l.object) (dangling_among l.graph.heap.now l.graph.weak (chunk_words l.graph.heap.now l.object) (field_slots 0 l.index))
    l.initial.patches.items l.patches.items
