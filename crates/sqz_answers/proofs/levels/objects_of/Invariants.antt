use Rattle.std.proofs.Common.{◌≡◌, map, take}
use Rattle.sqz_answers.proofs.levels.objects_of.Given as goal

abbrev pub invariant-loop-one : goal.invariant-loop-one
invariant-loop-one l = l.objects.items ≡ map (λ one. one.object) (take l.one-index l.measured)
