use Rattle.std.proofs.Common.{◌≡◌, ◌-◌, ◌<◌, ◌≤◌, ℕ, None, slice_index_or}
use Rattle.sqz_slide.proofs.piece_sizes.end_of_live.Given as goal

abbrev pub invariant-loop-end : goal.invariant-loop-end
invariant-loop-end l =
    record {
      low : l.from ≤ l.end;
      high : l.end ≤ l.to;
      none : (index : ℕ) → l.end ≤ index → index < l.to → slice_index_or l.forward index None ≡ None;
    }

abbrev pub decreases-loop-end : goal.decreases-loop-end
decreases-loop-end l = l.end - l.from
