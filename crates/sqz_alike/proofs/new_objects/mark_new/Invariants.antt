use Rattle.std.proofs.Common.{◌≡◌, map, take}
use Rattle.sqz_alike.proofs.new_objects.mark_new.Given as goal

abbrev pub invariant-loop-pair : goal.invariant-loop-pair
invariant-loop-pair l = l.partners.items ≡ map (λ pair. pair.new) (take l.pair-index l.pairs)
