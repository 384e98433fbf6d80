use Rattle.std.proofs.Common.{◌≡◌, map, take}
use Rattle.sqz_look_diff.proofs.classes.with_keys.Given as goal

abbrev pub invariant-loop-total : goal.invariant-loop-total
invariant-loop-total l = map (λ one. one.total) l.named.items ≡ take l.total-index l.totals
