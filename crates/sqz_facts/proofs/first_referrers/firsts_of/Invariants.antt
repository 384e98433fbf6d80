use Rattle.std.proofs.Common.{◌≡◌, map, take}
use Rattle.sqz_facts.specs.FirstReferrers.{first_at, row_of}
use Rattle.sqz_facts.proofs.first_referrers.firsts_of.Given as goal

abbrev pub invariant-loop-object : goal.invariant-loop-object
invariant-loop-object l =
    l.found.items ≡ map (λ object. first_at l.firsts (row_of l.rows object)) (take l.object-index l.objects)
