use Rattle.std.proofs.Common.{◌≡◌, ◌<◌, ℕ, true, [], None}
use Rattle.std.specs.List.{flat_map, range_with_len}
use Rattle.sqz_trace.specs.Graph.{is_marked}
use Rattle.sqz_damage.specs.Patches.{patches_at, dangling_of}
use Rattle.sqz_damage.specs.Pushed.{nil_or_zero}
use Rattle.sqz_damage.proofs.dangling.patches.nil_patches.Given as goal

abbrev pub invariant-loop-object : goal.invariant-loop-object
invariant-loop-object l =
    record {
      pushed : l.patches.items
          ≡ flat_map (patches_at l.live.graph.heap.now l.live.graph.weak l.live.marks (nil_or_zero l.nil)) (range_with_len 0 l.object);
      needed : l.nil ≡ None → (index : ℕ) → index < l.object → is_marked l.live.marks index ≡ true
          → dangling_of l.live.graph.heap.now l.live.graph.weak index ≡ [];
    }
