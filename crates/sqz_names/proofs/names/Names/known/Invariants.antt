use Rattle.std.proofs.Common.{◌<◌, ℕ, get_or}
use Rattle.sqz_names.specs.declared.known.Known.{Known}
use Rattle.sqz_names.specs.Known.{IsKnown}
use Rattle.sqz_names.proofs.names.Names.known.Given as goal

abbrev pub invariant-loop-known : goal.invariant-loop-known
invariant-loop-known l =
    (k : ℕ) (d : Known) → k < l.known-index → IsKnown l.self.graph.heap.now l.self.graph.weak (get_or l.known-items k d) l.object → ⊥
