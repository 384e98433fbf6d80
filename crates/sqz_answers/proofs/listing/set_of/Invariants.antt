use Rattle.std.proofs.Common.{◌≡◌, map, take}
use Rattle.sqz_answers.proofs.listing.set_of.Given as goal

abbrev pub invariant-loop-member : goal.invariant-loop-member
invariant-loop-member l = l.objects.items ≡ map (λ member. member.object) (take l.member-index l.members)
