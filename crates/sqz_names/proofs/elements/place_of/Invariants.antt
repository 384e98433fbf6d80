use Rattle.std.proofs.Common.{◌≡◌, ◌<◌, ℕ, false, get_or}
use Rattle.sqz_names.specs.Elements.{is_named}
use Rattle.sqz_names.proofs.elements.place_of.Given as goal

-- no instance variable before this one has the name
abbrev pub invariant-loop-place : goal.invariant-loop-place
invariant-loop-place l = (k : ℕ) → k < l.place → is_named l.names.graph.heap.now l.name (get_or l.variables k 0) ≡ false
