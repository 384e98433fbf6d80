use Rattle.std.proofs.Common.{◌≡◌, map, take}
use Rattle.sqz_code.proofs.selectors.picking.marked_selectors.Given as goal

abbrev pub invariant-loop-name : goal.invariant-loop-name
invariant-loop-name l = l.selectors.items ≡ map (λ name. name.selector) (take l.name-index l.methods)
