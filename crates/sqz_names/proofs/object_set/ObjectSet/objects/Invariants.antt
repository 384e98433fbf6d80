use Rattle.std.proofs.Common.{◌≡◌, ◌<◌, true, All}
use Rattle.std.specs.List.{range_with_len}
use Rattle.sqz_image.specs.Objects.{object_count}
use Rattle.sqz_trace.specs.Graph.{is_marked}
use Rattle.sqz_names.specs.Picks.{ArePicked}
use Rattle.sqz_names.proofs.object_set.ObjectSet.objects.Given as goal

abbrev pub invariant-loop-object : goal.invariant-loop-object
invariant-loop-object l = record {
  inside : All (λ object. object < object_count l.heap) l.found.items;
  members : ArePicked (λ object. is_marked l.self object ≡ true) (range_with_len 0 l.object) l.found.items;
}
