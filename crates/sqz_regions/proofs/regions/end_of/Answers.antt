use Rattle.std.proofs.Common.{◌+◌, ◌<◌, ◌≤◌, arith}
use Rattle.sqz_image.specs.Objects.{object_count}
use Rattle.sqz_regions.specs.Regions.{points_up_to}
use Rattle.sqz_regions.proofs.RegionLemmas.{known_more, known_all, objects_before-rises}
use Rattle.sqz_regions.proofs.regions.end_of.Goals as goal

pub loop-object-init : goal.loop-object-init
loop-object-init c =
    let region = c.args.region in
    omega (arith, c.requires, objects_before-rises c.args.cut.now c.args.heap.now region (region + 1) (omega arith))

pub loop-object-preserved : goal.loop-object-preserved
loop-object-preserved c =
    let inside : c.loop-object.object < object_count c.args.heap.now = omega arith in
    let told = c.end-end.ensures c.first.result (omega arith) in
    known_more c.args.cut.now c.args.heap.now _ _ _ inside c.first.ensures.first (told.0 (omega arith))

pub returns-else-from-end : goal.returns-else-from-end
returns-else-from-end c =
    let inside : c.loop-object.object < object_count c.args.heap.now = omega arith in
    let told = c.end-end.ensures c.first.result (omega arith) in
    let above : points_up_to c.args.cut.now c.first.result ≤ c.args.region → ⊥ =
    λ le. absurd (let lt = told.1 le in omega arith) in
    known_all c.args.cut.now c.args.heap.now _ _ _ inside c.first.ensures.first above c.loop-object.invariant
