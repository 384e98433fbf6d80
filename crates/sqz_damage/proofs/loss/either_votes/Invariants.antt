use Rattle.std.proofs.Common.{◌≡◌, ◌+◌, ◌-◌, ◌<◌, ◌||◌, false, length, ℕ}
use Rattle.std.specs.Prelude.{slice_index_or}
use Rattle.sqz_damage.proofs.loss.either_votes.Given as goal

abbrev pub invariant-loop-k : goal.invariant-loop-k
invariant-loop-k l =
    (length l.found.items ≡ l.count)
    × ((j : ℕ) → j < l.k → slice_index_or l.found.items j false
    ≡ (slice_index_or l.votes j false || slice_index_or l.votes (j + (length l.votes - l.count)) false))
