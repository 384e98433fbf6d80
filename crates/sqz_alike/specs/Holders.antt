-- The objects without names that retain more than before.
use Rattle.std.specs.Prelude.{◌-◌, ◌||◌, ℕ, zero, suc, nat_lt, not, Bool, true, if◌then◌else◌, List, [], ◌++◌}
use Rattle.std.specs.Prelude.{slice_index_or, Option, Some, None, is_some, option_to_list}
use Rattle.std.specs.List.Sorted.{IsPermutation, IsSortedBy, IsStableBy}
use Rattle.std.specs.Ordering.{nat_cmp, is_lt}
use Rattle.sqz_image.specs.Objects.{object_count}
use Rattle.sqz_trace.specs.Graph.{is_marked}
use Rattle.sqz_alike.specs.Matching.{partner_in}
use Rattle.sqz_dominators.specs.Children.{retained_bytes}
use Rattle.sqz_alike.specs.declared.growth.Growth.{Growth}
use Rattle.sqz_alike.specs.declared.holder.Holder.{Holder}

-- the partner of an object of the new image
abbrev pub old_of : Growth → ℕ → Option ℕ
old_of growth object = partner_in growth.partners.now.old_of.items object

-- whether an object above has a name or a partner
abbrev pub is_known : Growth → Option ℕ → Bool
is_known growth (Some above) = is_marked growth.named.now above || is_some (old_of growth above)
is_known growth None = true

abbrev pub is_outermost : Growth → ℕ → Bool
is_outermost growth object = is_known growth (slice_index_or growth.new.now.immediate object None)

-- an object with this partner, if it has one, as a holder: one that grew, or an outermost new one
abbrev pub compared : Growth → ℕ → Option ℕ → Option Holder
compared growth object (Some partner) =
    if nat_lt (retained_bytes growth.old.now partner) (retained_bytes growth.new.now object)
    then Some record {
      object = object;
      old = Some (retained_bytes growth.old.now partner);
      new = retained_bytes growth.new.now object;
    }
    else None
compared growth object None =
    if is_outermost growth object
    then Some record { object = object; old = None; new = retained_bytes growth.new.now object }
    else None

-- the holder that an object is, if it is live and has no name
abbrev pub holder_at : Growth → ℕ → Option Holder
holder_at growth object =
    if not (is_marked growth.live.now.marks object) || is_marked growth.named.now object
    then None
    else compared growth object (old_of growth object)

-- those below an index, in order
abbrev pub holders_below : Growth → ℕ → List Holder
holders_below growth zero = []
holders_below growth (suc count) = holders_below growth count ++ option_to_list (holder_at growth count)

-- by how many bytes what a holder retains grew
abbrev pub growth_since : ℕ → Option ℕ → ℕ
growth_since new (Some old) = new - old
growth_since new None = new

abbrev pub growth_of : Holder → ℕ
growth_of holder = growth_since holder.new holder.old

abbrev pub grows_more : Holder → Holder → Bool
grows_more one other = is_lt (nat_cmp (growth_of other) (growth_of one))

-- all holders, those that grew most first; on a tie in the order of their indexes
pub record AreHolders (growth : Growth) (holders : List Holder) : Type 0 where
  pub permutation : IsPermutation (holders_below growth (object_count growth.live.now.graph.heap.now)) holders
  pub sorted : IsSortedBy grows_more holders
  pub stable : IsStableBy grows_more (holders_below growth (object_count growth.live.now.graph.heap.now)) holders
