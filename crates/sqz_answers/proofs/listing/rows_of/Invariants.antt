use Rattle.std.proofs.Common.{◌≡◌, map, take}
use Rattle.sqz_answers.specs.Listings.{listed_by}
use Rattle.sqz_answers.proofs.listing.rows_of.Given as goal

abbrev pub invariant-loop-member : goal.invariant-loop-member
invariant-loop-member l = l.rows.items ≡ map (listed_by l.dominators) (take l.member-index l.members)
