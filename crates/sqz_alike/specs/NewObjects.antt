-- The objects of the new image that have no partners.
use Rattle.std.specs.Prelude.{ℕ, Bool, List, map}
use Rattle.sqz_trace.specs.Avoiding.{MarksListed}
use Rattle.sqz_trace.specs.Dead.{IsDifference}
use Rattle.sqz_alike.specs.declared.matching.Pair.{Pair}

-- the marked objects are those of others that are in none of the pairs
pub record AreNew (count : ℕ) (live : List Bool) (pairs : List Pair) (marks : List Bool) : Type 0 where
  pub matched : List Bool
  pub listed : MarksListed count (map (λ pair. pair.new) pairs) matched
  pub difference : IsDifference count live matched marks
