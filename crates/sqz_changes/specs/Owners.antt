-- Which pairs own the others.
use Rattle.std.specs.Prelude.{ℕ, zero, suc, Bool, false, ◌==◌, ◌&&◌, if◌then◌else◌, List, [], ◌∷◌, ◌++◌, length, map}
use Rattle.std.specs.Prelude.{slice_index_or, Option, Some, None}
use Rattle.std.specs.List.{find}
use Rattle.sqz_image.specs.declared.slot.Slot.{Slot}
use Rattle.sqz_alike.specs.declared.matching.Pair.{Pair}
use Rattle.sqz_alike.specs.Partners.{pair_at}
use Rattle.sqz_alike.specs.Seen.{seen_target}
use Rattle.sqz_changes.specs.declared.leads.Step.{Step}
use Rattle.sqz_changes.specs.Compared.{Compared, is_anchor}
use Rattle.sqz_changes.specs.Differences.{common_slots}

-- whether two slots lead to both objects of a pair
abbrev pub are_targets : Pair → Option ℕ → Option ℕ → Bool
are_targets pair (Some old) (Some new) = old == pair.old && new == pair.new
are_targets pair _ _ = false

-- whether a step leads to both objects of a pair
abbrev pub leads_to : Compared → Pair → Step → Bool
leads_to compared pair step =
    are_targets pair (seen_target compared.old (pair_at compared.pairs step.pair).old step.slot)
    (seen_target compared.new (pair_at compared.pairs step.pair).new step.slot)

-- the steps from the pair at an index through these slots
abbrev pub through : ℕ → List Slot → List Step
through index slots = map (λ (slot : Slot). record { pair = index; slot = slot }) slots

-- the steps from the first `count` pairs, in the order of the walk
abbrev pub first_steps : Compared → ℕ → List Step
first_steps compared zero = []
first_steps compared (suc count) = first_steps compared count ++ through count (common_slots compared count)

-- the lead of the pair at an index: the first step from a pair before it that leads to it; None if
-- it is an anchor
abbrev pub lead_of : Compared → ℕ → Option Step
lead_of compared index =
    let pair = pair_at compared.pairs index in
    if is_anchor compared pair then None else find (leads_to compared pair) (first_steps compared index)

abbrev pub first_leads : Compared → ℕ → List (Option Step)
first_leads compared zero = []
first_leads compared (suc count) = first_leads compared count ++ lead_of compared count ∷ []

abbrev pub leads : Compared → List (Option Step)
leads compared = first_leads compared (length compared.pairs)

-- the owner of the pair at an index, by the owners of the pairs before it and by its lead: itself if
-- it has no lead, else the owner of the pair of its lead
abbrev pub owner_by : List ℕ → ℕ → Option Step → ℕ
owner_by owners index None = index
owner_by owners index (Some step) = slice_index_or owners step.pair index

-- the owners of the first `count` pairs, by their leads
abbrev pub first_owners : List (Option Step) → ℕ → List ℕ
first_owners leads zero = []
first_owners leads (suc count) =
    let owners = first_owners leads count in owners ++ owner_by owners count (slice_index_or leads count None) ∷ []

abbrev pub owners : Compared → List ℕ
owners compared = first_owners (leads compared) (length compared.pairs)

-- the last of the steps to a pair, by its lead, after those that lead to the pair of the lead
abbrev pub path_by : (ℕ → List Step) → Option Step → List Step
path_by before None = []
path_by before (Some step) = before step.pair ++ step ∷ []

-- the last steps that lead to the pair at an index, at most so many
abbrev pub path_within : List (Option Step) → ℕ → ℕ → List Step
path_within leads zero index = []
path_within leads (suc most) index = path_by (path_within leads most) (slice_index_or leads index None)

-- the steps that lead to the pair at an index from its owner: each is from a pair before the one
-- that it leads to, so there are no more than the index
abbrev pub path_to : List (Option Step) → ℕ → List Step
path_to leads index = path_within leads index index
