use Rattle.std.specs.Prelude.{◌≡◌, Some}
use Rattle.std.proofs.Common.{ap, ◌∙◌}
use Rattle.sqz_image.specs.Objects.{find}
use Rattle.sqz_image.proofs.FoundLemmas.{find-address}
use Rattle.sqz_look.proofs.missing.no_object_at.Goals as goal

pub unreachable-requires : goal.unreachable-requires
unreachable-requires c =
    let memory = c.args.inspector.now.live.graph.heap.now in
    let found : find memory c.args.address ≡ Some c.in-Object.field-0 =
    ap (find memory) c.in-Object.ensures.1 ∙ find-address memory c.data.ensures.chunks c.in-Object.field-0 c.in-Object.ensures.0 in
    absurd (cc (found, c.requires))
