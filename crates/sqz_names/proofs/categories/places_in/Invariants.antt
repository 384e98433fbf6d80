use Rattle.std.proofs.Common.{◌≡◌, ℕ}
use Rattle.std.specs.BTreeMap.{get}
use Rattle.std.specs.Ordering.{nat_cmp}
use Rattle.sqz_names.specs.Categories.{first_among}
use Rattle.sqz_names.proofs.categories.places_in.Given as goal

-- each object has the first of its places so far
abbrev pub invariant-loop-place : goal.invariant-loop-place
invariant-loop-place l = (listed : ℕ) → get nat_cmp l.places listed ≡ first_among l.heap l.array listed l.place
