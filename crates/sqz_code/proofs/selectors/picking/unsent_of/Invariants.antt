use Rattle.std.proofs.Common.{◌≡◌, filter, not, take}
use Rattle.sqz_trace.specs.Graph.{is_marked}
use Rattle.sqz_code.proofs.selectors.picking.unsent_of.Given as goal

abbrev pub invariant-loop-name : goal.invariant-loop-name
invariant-loop-name l = l.found.items ≡ filter (λ name. not (is_marked l.mentioned name.selector)) (take l.name-index l.methods)
