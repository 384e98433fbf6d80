use Rattle.std.proofs.Common.{◌≡◌, ◌<◌, ◌≤◌, ℕ, None, slice_index_or}
use Rattle.sqz_slide.proofs.piece_sizes.first_live.Given as goal

abbrev pub invariant-loop-object : goal.invariant-loop-object
invariant-loop-object l = (index : ℕ) → l.from ≤ index → index < l.object → slice_index_or l.forward index None ≡ None
