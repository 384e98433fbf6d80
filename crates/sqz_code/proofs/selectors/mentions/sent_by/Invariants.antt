use Rattle.std.proofs.Common.{◌≡◌, ◌<◌, All, take}
use Rattle.sqz_image.specs.Objects.{object_count}
use Rattle.sqz_code.specs.Mentions.{sent_by}
use Rattle.sqz_code.proofs.selectors.mentions.sent_by.Given as goal

abbrev pub invariant-loop-instruction : goal.invariant-loop-instruction
invariant-loop-instruction l =
    (l.sent.items ≡ sent_by l.heap l.method (take l.instruction-index l.instruction-items))
    × All (λ selector. selector < object_count l.heap) l.sent.items
