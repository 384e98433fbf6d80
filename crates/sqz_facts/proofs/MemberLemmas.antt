-- The marked objects of a group, by address and by their words.
-- Serves `members::members_of`.
use Rattle.std.proofs.Common.{◌≡◌, ℕ, ◌+◌, Bool, List, [], ◌∷◌, ◌++◌, length}
use Rattle.std.proofs.Common.{refl}
use Rattle.std.specs.List.Sorted.{IsPermutation, IsSortedBy}
use Rattle.std.specs.declared.cmp.Reverse.{Reverse}
use Rattle.sqz_object.proofs.RankedLemmas.{AreFilled, AreFilled-more_no, AreFilled-more_yes, AreRanked-sorted, is_before}
use Rattle.sqz_image.specs.Objects.{Memory, object_count, chunk_words}
use Rattle.sqz_trace.specs.declared.weak.Weak.{Weak}
use Rattle.sqz_histogram.specs.declared.group.Group.{Group}
use Rattle.sqz_facts.specs.declared.members.Member.{Member}
use Rattle.sqz_facts.specs.Members.{no_member, IsOfGroup, IsMember, AreMembers, AreMembersBelow}

-- a member's index, by which members are filled in
abbrev object_of : Member → ℕ
object_of member = member.object

-- its words
abbrev words_of : Member → ℕ
words_of member = member.words

-- what members are sorted by
abbrev pub sort_key : Member → Reverse ℕ × ℕ
sort_key member = (record { 0 = member.words }, member.object)

module _ (memory : Memory) (weak : Weak) (marks : List Bool) (group : Group) where
  -- what holds of a member
  abbrev Is : Member → Type 0
  Is = IsMember memory weak marks group

  -- which objects are members
  abbrev Has : ℕ → Type 0
  Has = IsOfGroup memory weak marks group

  -- members are a list that is filled by their indexes
  filled : {bound : ℕ} {members : List Member} → AreMembersBelow memory weak marks group bound members
      → AreFilled object_of no_member Is Has bound members
  filled are = record { each = are.each; below = are.below; all = are.all; rise = are.rise }

  -- and such a list is the members
  filled_back : {bound : ℕ} {members : List Member} → AreFilled object_of no_member Is Has bound members
      → AreMembersBelow memory weak marks group bound members
  filled_back are = record { each = are.each; below = are.below; all = are.all; rise = are.rise }

  module _ (bound : ℕ) (members : List Member) (are : AreMembersBelow memory weak marks group bound members) where
    -- an object that is not of the group is no member
    pub AreMembersBelow-more_no : (Has bound → ⊥) → AreMembersBelow memory weak marks group (bound + 1) members
    AreMembersBelow-more_no other = filled_back (AreFilled-more_no object_of no_member Is Has bound members (filled are) other)

    -- one that is of the group is the next member
    pub AreMembersBelow-more_yes : Has bound → (words : ℕ) → words ≡ length (chunk_words memory bound)
        → AreMembersBelow memory weak marks group (bound + 1) (members ++ record { object = bound; words = words } ∷ [])
    AreMembersBelow-more_yes is words words_are =
        let member : Member = record { object = bound; words = words } in
        filled_back
        (AreFilled-more_yes object_of no_member Is Has bound members (filled are) member refl (record { is = is; words = words_are }))

  -- all members are in their order once they are sorted by words and index
  pub AreMembers-sorted : (members sorted : List Member)
      → AreMembersBelow memory weak marks group (object_count memory) members → IsPermutation members sorted
      → IsSortedBy (is_before object_of words_of) sorted → AreMembers memory weak marks group sorted
  AreMembers-sorted members sorted are moved ordered =
      let in_order =
      AreRanked-sorted object_of no_member Is Has (object_count memory) members (filled are) sorted moved words_of ordered in
      record { each = in_order.each; all = λ index is. in_order.all index is.inside is; ordered = in_order.ordered }
