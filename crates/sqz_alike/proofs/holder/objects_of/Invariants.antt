use Rattle.std.proofs.Common.{◌≡◌, map, take}
use Rattle.sqz_alike.specs.declared.holder.Holder.{Holder}
use Rattle.sqz_alike.proofs.holder.objects_of.Given as goal

abbrev pub invariant-loop-holder : goal.invariant-loop-holder
invariant-loop-holder l = l.objects.items ≡ map (λ (holder : Holder). holder.object) (take l.holder-index l.holders)
