-- What is found at an address is an object.
-- Serves `fault_place` and `object_near`.
use Rattle.std.proofs.Common.{◌≡◌, ℕ, Option, Some, None, sym}
use Rattle.std.specs.Prelude.{IfSome, ◌<◌}
use Rattle.sqz_image.specs.Objects.{Memory, find, object_count, objects}
use Rattle.sqz_image.proofs.ObjectLemmas.{find_in-lt}

pub find-inside : (memory : Memory) (address : ℕ) (found : Option ℕ)
    → found ≡ find memory address → IfSome found (λ object. object < object_count memory)
find-inside memory address None is = tt
find-inside memory address (Some object) is = find_in-lt memory.base (objects memory) address object (sym is)
