-- How many of some objects each group has.
use Rattle.std.specs.Prelude.{◌≡◌, ◌==◌, ◌<◌, ℕ, zero, suc, Bool, List, map, All, Contains, count_by, sum_by, ◌^◌, Option, Some, None}
use Rattle.std.specs.List.{AllPairs}
use Rattle.std.specs.List.Sorted.{IsPermutation, IsSortedBy, IsStableBy}
use Rattle.std.specs.Ordering.{nat_cmp, is_lt}
use Rattle.std.specs.BTreeMap.{BTreeMap}
use Rattle.std.specs.BTreeMap as tree
use Rattle.sqz_image.specs.Objects.{Memory, object_count, chunk_words}
use Rattle.sqz_trace.specs.declared.weak.Weak.{Weak}
use Rattle.sqz_histogram.specs.declared.group.Group.{Group}
use Rattle.sqz_histogram.specs.Groups.{IsInside, is_same, group_of}
use Rattle.sqz_histogram.specs.Keys.{key_of, group_with}
use Rattle.sqz_answers.specs.declared.group_counts.GroupCount.{GroupCount}

-- whether a group has more of the objects than another
abbrev pub has_more : GroupCount → GroupCount → Bool
has_more one other = is_lt (nat_cmp other.objects one.objects)

-- a key and a number of objects, as a group and this number
abbrev pub count_at : ℕ → ℕ × ℕ → GroupCount
count_at count entry = record { group = group_with count entry.0; objects = entry.1 }

-- each group is one that some object may be in, given the number of objects, and the numbers of
-- objects together are few
abbrev pub AreCountsWithin : ℕ → List GroupCount → Type 0
AreCountsWithin count counts =
    All (λ one. IsInside count one.group) counts × (sum_by (λ one. one.objects) counts < 2 ^ 32)

-- a number that is not 0
abbrev pub some_number : ℕ → Option ℕ
some_number zero = None
some_number (suc number) = Some (suc number)

module _ (memory : Memory) (weak : Weak) where
  -- the group of an object, and its key
  abbrev pub group_at : ℕ → Group
  group_at object = group_of memory weak (chunk_words memory object)

  abbrev pub key_at : ℕ → ℕ
  key_at object = key_of (object_count memory) (group_at object)

  module _ (objects : List ℕ) where
    -- the number of the objects that are in a group
    abbrev pub number_in : Group → ℕ
    number_in group = count_by (λ object. is_same group (group_at object)) objects

    -- the number of the objects whose groups have a key
    abbrev pub number_with : ℕ → ℕ
    number_with key = count_by (λ object. key_at object == key) objects

    -- by key, the number of the objects of each group that has any
    abbrev pub AreTallies : BTreeMap ℕ ℕ → Type 0
    AreTallies tallies = (key : ℕ) → tree.get nat_cmp tallies key ≡ some_number (number_with key)

    -- the groups that have any of the objects, each once, with the number of their objects: classes
    -- come first, by address, and then compact indexes
    pub record AreCountsByKey (counts : List GroupCount) : Type 0 where
      pub all : All (λ object. Contains (map (λ count. count.group) counts) (group_at object)) objects
      pub each : All (λ count. (count.objects ≡ number_in count.group) × (0 < count.objects)) counts
      pub ordered : AllPairs (λ one other. key_of (object_count memory) one.group < key_of (object_count memory) other.group) counts

    -- these groups, those with more of the objects first; on a tie they keep this order
    pub record AreGroupCounts (counts : List GroupCount) : Type 0 where
      pub listed : List GroupCount
      pub are : AreCountsByKey listed
      pub same : IsPermutation listed counts
      pub sorted : IsSortedBy has_more counts
      pub stable : IsStableBy has_more listed counts
