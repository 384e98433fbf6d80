use Rattle.std.proofs.Common.{◌≡◌, ℕ, List, take}
use Rattle.std.specs.BTreeMap.{get_by_text}
use Rattle.sqz_answers.specs.Sizes.{size_by_name}
use Rattle.sqz_answers.proofs.named.sizes_by_name.Given as goal

abbrev pub invariant-loop-named : goal.invariant-loop-named
invariant-loop-named l = (name : List ℕ) → get_by_text l.sizes name ≡ size_by_name name (take l.named-index l.totals)
