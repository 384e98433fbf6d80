-- What laws say of differences, changes and paths.
use Rattle.std.specs.Prelude.{◌≡◌, ◌↔◌, ◌==◌, ◌+◌, ◌<◌, ◌⊎◌, ℕ, Bool, true, List, [], ◌∷◌, length, map, slice_index_or}
use Rattle.sqz_trace.specs.Graph.{is_marked}
use Rattle.sqz_alike.specs.Alike.{HasNew, HasOld}
use Rattle.sqz_alike.specs.Partners.{pair_at}
use Rattle.sqz_changes.specs.declared.change.Change.{Change}
use Rattle.sqz_changes.specs.declared.leads.Step.{Step}
use Rattle.sqz_changes.specs.declared.place.Difference.{Difference}
use Rattle.sqz_changes.specs.Compared.{Compared}
use Rattle.sqz_changes.specs.Owners.{leads_to, owners}

-- the live objects are those of the pairs
pub record AreAllPaired (compared : Compared) : Type 0 where
  pub old : (object : ℕ) → (is_marked compared.old.marks object ≡ true) ↔ HasOld compared.pairs object
  pub new : (object : ℕ) → (is_marked compared.new.marks object ≡ true) ↔ HasNew compared.pairs object

-- the owner of the pair at an index
abbrev pub owner_of : Compared → ℕ → ℕ
owner_of compared index = slice_index_or (owners compared) index 0

-- the differences of an owner, and its changes
abbrev pub is_owned : Compared → ℕ → Difference → Bool
is_owned compared owner difference = owner_of compared difference.pair == owner

abbrev pub is_of : ℕ → Change → Bool
is_of owner change = change.owner == owner

-- the change of an owner with these differences: none if it has none
abbrev pub change_for : ℕ → List Difference → List Change
change_for owner [] = []
change_for owner (first ∷ others) = record { owner = owner; first = first; count = length others + 1 } ∷ []

-- the first difference of each change
abbrev pub firsts : List Change → List Difference
firsts changes = map (λ (change : Change). change.first) changes

-- these differences are some of the others, in the same order
abbrev pub AreInOrder : List Difference → List Difference → Type 0
AreInOrder [] others = Unit {0}
AreInOrder (one ∷ ones) [] = ⊥
AreInOrder (one ∷ ones) (other ∷ others) = ((one ≡ other) × AreInOrder ones others) ⊎ AreInOrder (one ∷ ones) others

-- a step leads from the pair at an index to that at another
pub record LeadsFrom (compared : Compared) (from to : ℕ) (step : Step) : Type 0 where
  pub from_is : step.pair ≡ from
  pub inside : to < length compared.pairs
  pub leads : leads_to compared (pair_at compared.pairs to) step ≡ true

-- these steps lead from the pair at an index to that at another, one after the other
abbrev pub IsPath : Compared → ℕ → List Step → ℕ → Type 0
IsPath compared from [] to = from ≡ to
IsPath compared from (step ∷ steps) to = (next : ℕ) × LeadsFrom compared from next step × IsPath compared next steps to
