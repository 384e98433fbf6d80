use Rattle.std.specs.Prelude.{◌≡◌, ◌<◌, ℕ, Option, Some, None, IfSome}
use Rattle.std.proofs.Common.{sym}
use Rattle.sqz_image.specs.Objects.{Memory, object_count, objects, find}
use Rattle.sqz_image.proofs.ObjectLemmas.{find_in-lt}
use Rattle.sqz_names.proofs.words.addresses.object_at.Goals as goal

found_inside : (memory : Memory) (address : ℕ) (found : Option ℕ) → found ≡ find memory address
    → IfSome found (λ object. object < object_count memory)
found_inside memory address None is = tt
found_inside memory address (Some object) is = find_in-lt memory.base (objects memory) address object (sym is)

pub returns-clause-inside : goal.returns-clause-inside
returns-clause-inside c = found_inside c.args.heap.now c.args.address c.find.result c.find.ensures
