-- The marked objects of a group, and their order.
use Rattle.std.specs.Prelude.{◌≡◌, ◌⊎◌, ◌<◌, ℕ, Bool, true, List, length, slice_index_or}
use Rattle.sqz_image.specs.Objects.{Memory, object_count, chunk_words}
use Rattle.sqz_trace.specs.declared.weak.Weak.{Weak}
use Rattle.sqz_trace.specs.Graph.{is_marked}
use Rattle.sqz_histogram.specs.declared.group.Group.{Group}
use Rattle.sqz_histogram.specs.Groups.{group_of}
use Rattle.sqz_facts.specs.declared.members.Member.{Member}

-- a marked object of the group
pub record IsOfGroup (memory : Memory) (weak : Weak) (marks : List Bool) (group : Group) (index : ℕ) : Type 0 where
  pub inside : index < object_count memory
  pub marked : is_marked marks index ≡ true
  pub of_group : group_of memory weak (chunk_words memory index) ≡ group

-- a member: the object, and the length of its chunk in words
pub record IsMember (memory : Memory) (weak : Weak) (marks : List Bool) (group : Group) (member : Member) : Type 0 where
  pub is : IsOfGroup memory weak marks group member.object
  pub words : member.words ≡ length (chunk_words memory member.object)

abbrev pub no_member : Member
no_member = record { object = 0; words = 0 }

-- more words come first; on a tie the lower address does
abbrev pub ComesBefore : Member → Member → Type 0
ComesBefore one other = (other.words < one.words) ⊎ ((one.words ≡ other.words) × (one.object < other.object))

-- all marked objects of the group, in order, each once
pub record AreMembers (memory : Memory) (weak : Weak) (marks : List Bool) (group : Group) (members : List Member) : Type 0 where
  pub each : (i : ℕ) → i < length members → IsMember memory weak marks group (slice_index_or members i no_member)
  pub all : (index : ℕ) → IsOfGroup memory weak marks group index
      → (i : ℕ) × (i < length members) × ((slice_index_or members i no_member).object ≡ index)
  pub ordered : (i j : ℕ) → i < j → j < length members
      → ComesBefore (slice_index_or members i no_member) (slice_index_or members j no_member)

-- the members with an index below a bound, by index
pub record AreMembersBelow (memory : Memory) (weak : Weak) (marks : List Bool) (group : Group) (bound : ℕ) (members : List Member) : Type 0 where
  pub each : (i : ℕ) → i < length members → IsMember memory weak marks group (slice_index_or members i no_member)
  pub below : (i : ℕ) → i < length members → (slice_index_or members i no_member).object < bound
  pub all : (index : ℕ) → index < bound → IsOfGroup memory weak marks group index
      → (i : ℕ) × (i < length members) × ((slice_index_or members i no_member).object ≡ index)
  pub rise : (i j : ℕ) → i < j → j < length members
      → (slice_index_or members i no_member).object < (slice_index_or members j no_member).object
