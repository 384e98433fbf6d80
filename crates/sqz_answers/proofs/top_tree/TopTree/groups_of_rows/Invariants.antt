use Rattle.std.proofs.Common.{◌≡◌, ◌<◌, ℕ, All, length, get_or}
use Rattle.std.specs.Global.{Vec}
use Rattle.sqz_image.specs.Objects.{object_count}
use Rattle.sqz_answers.specs.declared.group_counts.GroupCount.{GroupCount}
use Rattle.sqz_answers.specs.declared.rows.TopRow.{TopRow}
use Rattle.sqz_answers.specs.GroupCounts.{AreCountsWithin}
use Rattle.sqz_answers.specs.Smaller.{AreGroupsAt, above_smaller}
use Rattle.sqz_answers.proofs.top_tree.TopTree.groups_of_rows.Given as goal

abbrev pub invariant-loop-row : goal.invariant-loop-row
invariant-loop-row l =
    let memory = l.self.graph.heap.now in
    record {
      sized : length l.groups.items ≡ l.row-index;
      each : (i : ℕ) (row : TopRow) (none : Vec GroupCount) → i < l.row-index
          → AreGroupsAt memory l.self.graph.weak l.self.dominators.now l.self.parts.now l.self.limits
          (above_smaller (get_or l.rows i row)) (get_or l.groups.items i none).items;
      within : All (λ counts. AreCountsWithin (object_count memory) counts.items) l.groups.items;
    }
