-- The first steps that lead to pairs, kept by the objects of the old image.
use Rattle.std.specs.Prelude.{◌≡◌, ℕ, if◌then◌else◌, List, slice_index_or, Option, Some, None, Contains}
use Rattle.std.specs.List.{find}
use Rattle.sqz_alike.specs.declared.matching.Pair.{Pair}
use Rattle.sqz_changes.specs.declared.leads.Step.{Step}
use Rattle.sqz_alike.specs.Partners.{pair_at}
use Rattle.sqz_alike.specs.Seen.{seen_target}
use Rattle.sqz_changes.specs.Compared.{Compared, is_pair}
use Rattle.sqz_changes.specs.Owners.{leads_to}

-- two objects, if they are a pair
abbrev pub pair_if : List Pair → Option ℕ → Option ℕ → Option Pair
pair_if pairs (Some old) (Some new) = if is_pair pairs old new then Some record { old = old; new = new } else None
pair_if pairs (Some old) None = None
pair_if pairs None (Some new) = None
pair_if pairs None None = None

-- the pair that a step leads to
abbrev pub target_pair : Compared → Step → Option Pair
target_pair compared step =
    pair_if compared.pairs (seen_target compared.old (pair_at compared.pairs step.pair).old step.slot)
    (seen_target compared.new (pair_at compared.pairs step.pair).new step.slot)

-- for the old object of each pair the first of these steps that leads to the pair
abbrev pub AreFirst : Compared → List Step → List (Option Step) → Type 0
AreFirst compared steps found =
    (pair : Pair) → Contains compared.pairs pair → slice_index_or found pair.old None ≡ find (leads_to compared pair) steps
