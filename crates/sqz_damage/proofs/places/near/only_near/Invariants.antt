use Rattle.std.proofs.Common.{◌≡◌, ◌<◌, ◌++◌, IfSome}
use Rattle.sqz_image.specs.Objects.{object_count}
use Rattle.sqz_damage.specs.Near.{only, only_near}
use Rattle.sqz_damage.proofs.NearLemmas.{listed, objects_from}
use Rattle.sqz_damage.proofs.places.near.only_near.Given as goal

abbrev pub invariant-loop-bit : goal.invariant-loop-bit
invariant-loop-bit l =
    record {
      near : only (listed l.found ++ objects_from l.heap l.classes l.word l.bit) ≡ only_near l.heap l.classes l.word;
      inside : IfSome l.found (λ object. object < object_count l.heap);
    }
