-- The objects of a group, the marked ones with what they retain.
use Rattle.std.specs.Prelude.{◌≡◌, ◌*◌, Bool, List, map}
use Rattle.std.specs.Ordering.{nat_cmp, is_lt}
use Rattle.sqz_image.specs.Objects.{Memory, object_count}
use Rattle.sqz_trace.specs.declared.weak.Weak.{Weak}
use Rattle.sqz_trace.specs.Avoiding.{MarksListed}
use Rattle.sqz_trace.specs.Dead.{IsComplement, bytes_in}
use Rattle.sqz_trace.specs.Live.{live}
use Rattle.sqz_histogram.specs.declared.group.Group.{Group}
use Rattle.sqz_facts.specs.declared.members.Member.{Member}
use Rattle.sqz_facts.specs.Members.{AreMembers}
use Rattle.sqz_dominators.specs.Children.{retained_bytes}
use Rattle.sqz_dominators.specs.Retained.{DominatorTree, AreDominators}
use Rattle.sqz_answers.specs.declared.listing.Listed.{Listed}
use Rattle.sqz_answers.specs.declared.listing.Listing.{Listing}
use Rattle.sqz_answers.specs.declared.listing.DeadListing.{DeadListing}
use Rattle.sqz_answers.specs.CutOff.{IsRetainedBy}

-- the row of a member
abbrev pub listed_by : DominatorTree → Member → Listed
listed_by tree member =
    record { object = member.object; bytes = 4 * member.words; retained = retained_bytes tree member.object }

-- all marked objects of the group in order, their bytes, and what they retain together
pub record IsListing (memory : Memory) (weak : Weak) (marks : List Bool) (group : Group) (listing : Listing) : Type 0 where
  pub members : List Member
  pub are : AreMembers memory weak marks group members
  pub tree : DominatorTree
  pub dominators : AreDominators memory weak tree
  pub rows : listing.rows.items ≡ map (listed_by tree) members
  pub set : List Bool
  pub listed : MarksListed (object_count memory) (map (λ member. member.object) members) set
  pub bytes : listing.bytes ≡ bytes_in (live memory set)
  pub together : IsRetainedBy memory weak marks set listing.retained_together

-- whether a row retains more bytes than another
abbrev pub retains_more : Listed → Listed → Bool
retains_more one other = is_lt (nat_cmp other.retained one.retained)

-- all objects of the group that are not marked, in order, and their bytes
pub record IsDeadListing (memory : Memory) (weak : Weak) (marks : List Bool) (group : Group) (listing : DeadListing) : Type 0 where
  pub dead : List Bool
  pub complement : IsComplement (object_count memory) marks dead
  pub are : AreMembers memory weak dead group listing.rows.items
  pub set : List Bool
  pub listed : MarksListed (object_count memory) (map (λ member. member.object) listing.rows.items) set
  pub bytes : listing.bytes ≡ bytes_in (live memory set)
