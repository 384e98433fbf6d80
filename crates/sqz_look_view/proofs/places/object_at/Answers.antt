use Rattle.std.proofs.Common.{◌<◌, IfSome, ℕ, Option, None, Some, ◌≡◌, sym}
use Rattle.sqz_image.specs.Objects.{Memory, object_count, objects, find}
use Rattle.sqz_image.proofs.ObjectLemmas.{find_in-lt}
use Rattle.sqz_look_view.proofs.places.object_at.Goals as goal

abbrev IsInside : Memory → Option ℕ → Type 0
IsInside memory found = IfSome found (λ object. object < object_count memory)

found_inside : (memory : Memory) (address : ℕ) (found : Option ℕ) → find memory address ≡ found → IsInside memory found
found_inside memory address None is = tt
found_inside memory address (Some object) is = find_in-lt memory.base (objects memory) address object is

pub returns-clause-inside : goal.returns-clause-inside
returns-clause-inside c = found_inside c.args.heap.now c.args.address c.find.result (sym c.find.ensures)
