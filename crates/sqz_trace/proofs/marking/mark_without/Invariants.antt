use Rattle.std.proofs.Common.{◌≡◌, ◌+◌, ℕ, Some, vec_len}
use Rattle.sqz_image.specs.Objects.{find}
use Rattle.sqz_trace.specs.Reachability.{graph_from}
use Rattle.sqz_trace.specs.Shades.{marks_of}
use Rattle.sqz_trace.specs.Marking.{unmarked_count}
use Rattle.sqz_trace.proofs.AvoidingLemmas.{without}
use Rattle.sqz_trace.proofs.MarkingLemmas.{IsMarking}
use Rattle.sqz_trace.proofs.SoundMarkingLemmas.{IsSeen}
use Rattle.sqz_trace.proofs.marking.mark_without.Given as goal

abbrev pub invariant-loop-object : goal.invariant-loop-object
invariant-loop-object g l =
    record {
      marking : (start : ℕ) → find l.graph.heap.now l.graph.heap.now.special ≡ Some start
          → IsMarking (without (graph_from start l.graph.heap.now l.graph.weak) (g.A.Avoided.set l.avoided)) (marks_of l.shades.items) l.worklist.items;
      seen : IsSeen l.graph.heap.now l.graph.weak (marks_of l.shades.items) l.worklist.items l.is_sound;
    }

abbrev pub decreases-loop-object : goal.decreases-loop-object
decreases-loop-object g l = unmarked_count (marks_of l.shades.items) + vec_len l.worklist
