use Rattle.std.proofs.Common.{◌≡◌, filter, take}
use Rattle.sqz_trace.specs.Graph.{is_marked}
use Rattle.sqz_code.proofs.selectors.picking.implementors_of.Given as goal

abbrev pub invariant-loop-name : goal.invariant-loop-name
invariant-loop-name l = l.found.items ≡ filter (λ name. is_marked l.selectors name.selector) (take l.name-index l.methods)
