use Rattle.std.proofs.Common.{◌≡◌, ◌++◌, take}
use Rattle.sqz_code.specs.Unimplemented.{unimplemented_in}
use Rattle.sqz_code.proofs.selectors.unimplemented.push_unimplemented.Given as goal

abbrev pub invariant-loop-selector : goal.invariant-loop-selector
invariant-loop-selector l =
    l.found.items ≡ l.fn.found.items ++ unimplemented_in l.implemented l.sender (take l.selector-index l.sent)
