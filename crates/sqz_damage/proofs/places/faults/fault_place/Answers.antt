use Rattle.std.proofs.Common.{◌∙◌, sym, subst, ◌<◌, Some}
use Rattle.sqz_image.specs.Objects.{Memory, object_count}
use Rattle.sqz_damage.proofs.FoundLemmas.{find-inside}
use Rattle.sqz_damage.proofs.places.faults.fault_place.Goals as goal

pub word_of-word-requires : goal.word_of-word-requires
word_of-word-requires c =
    find-inside c.heap-heap.result.now _ (Some c.in_ok-object.object) (sym c.in_ok-object.was ∙ c.find.ensures)

pub returns-clause-inside : goal.returns-clause-inside
returns-clause-inside c =
    subst (λ (memory : Memory). c.in_ok-object.object < object_count memory) c.heap-heap.ensures
    (find-inside c.heap-heap.result.now _ (Some c.in_ok-object.object) (sym c.in_ok-object.was ∙ c.find.ensures))
