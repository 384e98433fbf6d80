-- The sums of a histogram: each marked object is counted in one group.
-- Serves `laws::histogram_sums`; `SumLemmas` of `sqz_census`.
use Rattle.std.proofs.Common.{◌≡◌, ◌⊎◌, ℕ, ◌+◌, ◌*◌, ◌<◌, Bool, true, cond, List, [], ◌∷◌, map, length}
use Rattle.std.proofs.Common.{filter, refl, sym, ap, subst, ◌∙◌, inl, inr, arith}
use Rattle.std.specs.List.{Contains, sum_by}
use Rattle.std.proofs.lemmas.Bool.{cases_Bool, eq-eqb}
use Rattle.std.proofs.lemmas.List.Sums.{sum_by-cons}
use Rattle.sqz_image.specs.Objects.{Memory, Object, address_of, words_in}
use Rattle.sqz_trace.specs.declared.weak.Weak.{Weak}
use Rattle.sqz_trace.specs.Live.{live}
use Rattle.sqz_trace.specs.Live.{live_words}
use Rattle.sqz_trace.proofs.LiveWordLemmas.{words_in-cons}
use Rattle.sqz_histogram.specs.declared.group.Group.{Group}
use Rattle.sqz_histogram.specs.declared.group.Group.TheVariants.{Class, Compact}
use Rattle.sqz_histogram.specs.declared.group.GroupTotal.{GroupTotal}
use Rattle.sqz_histogram.specs.Groups.{is_same, group_of, members, bytes_of, ComesBefore, AreGroups}
use Rattle.sqz_histogram.specs.Histogram.{total_of, IsHistogram}
use Rattle.sqz_histogram.proofs.GroupLemmas.{is_same-equal}
use Rattle.sqz_histogram.proofs.OrderedLemmas.{IsOrdered, Contains-cons_cases, Contains-head, Contains-tail, Contains-nil}
use Rattle.sqz_histogram.proofs.OrderedLemmas.{first_before, IsOrdered-tail}
use Rattle.sqz_histogram.proofs.Uniqueness.{ComesBefore-itself}

is_same-itself : (group : Group) → is_same group group ≡ true
is_same-itself (Class class) = eq-eqb class class refl
is_same-itself (Compact index) = eq-eqb index index refl

-- ---- of groups that differ one is the same as a given one

-- a number for a group where it is the same as a given one, and else 0
abbrev if_same : Group → ℕ → Group → ℕ
if_same given number group = cond (is_same group given) number 0

module _ (given : Group) (number : ℕ) where
  if_same-yes : (group : Group) → group ≡ given → if_same given number group ≡ number
  if_same-yes group same = rw (ap (λ (g : Group). is_same g given) same ∙ is_same-itself given) refl

  if_same-no : (group : Group) → (group ≡ given → ⊥) → if_same given number group ≡ 0
  if_same-no group differs =
      elim (cases_Bool (is_same group given)) [
        | inl it ↦ absurd (differs (is_same-equal group given it))
        | inr other ↦ rw other refl
      ]

  none_same : (groups : List Group) → ((group : Group) → Contains groups group → group ≡ given → ⊥)
      → sum_by (if_same given number) groups ≡ 0
  none_same [] differ = refl
  none_same (group ∷ groups) differ =
      let first = if_same-no group (differ group (Contains-head group groups)) in
      let others = none_same groups (λ other has. differ other (Contains-tail group groups other has)) in
      omega (arith, sum_by-cons (if_same given number) group groups, first, others)

module _ (memory : Memory) (weak : Weak) (marks : List Bool) (address : ℕ → ℕ) where
  -- of groups in order that have a given one, it is the one that is the same
  one_same : (given : Group) (number : ℕ) (groups : List Group) → IsOrdered (ComesBefore memory weak marks address) groups
      → Contains groups given → sum_by (if_same given number) groups ≡ number
  one_same given number [] ordered has = absurd (Contains-nil given has)
  one_same given number (group ∷ groups) ordered has =
      let tail = IsOrdered-tail (ComesBefore memory weak marks address) group groups ordered in
      by (one_same given number groups tail) (Contains-cons_cases group groups given has)
    where
      before : (other : Group) → Contains groups other → ComesBefore memory weak marks address group other
      before other = first_before (ComesBefore memory weak marks address) group groups other ordered

      apart : (other : Group) → Contains groups other → group ≡ other → ⊥
      apart other behind same =
          ComesBefore-itself memory weak marks address other
          (subst (λ (g : Group). ComesBefore memory weak marks address g other) same (before other behind))

      by : (Contains groups given → sum_by (if_same given number) groups ≡ number)
          → (group ≡ given) ⊎ Contains groups given → sum_by (if_same given number) (group ∷ groups) ≡ number
      by others (inl same) =
          let first = if_same-yes given number group same in
          let none = none_same given number groups (λ other behind is. apart other behind (same ∙ sym is)) in
          omega (arith, sum_by-cons (if_same given number) group groups, first, none)
      by others (inr behind) =
          let first = if_same-no given number group (apart given behind) in
          omega (arith, sum_by-cons (if_same given number) group groups, first, others behind)

  -- ---- sums over the objects of each group

  abbrev has : Group → Object → Bool
  has group object = is_same group (group_of memory weak object.chunk)

  -- a sum over objects, as their number and their words are
  module _ (weight : Object → ℕ) (sum_of : List Object → ℕ) (none : sum_of [] ≡ 0)
      (more : (object : Object) (objects : List Object) → sum_of (object ∷ objects) ≡ weight object + sum_of objects) where
    abbrev in_group : List Object → Group → ℕ
    in_group objects group = sum_of (filter (has group) objects)

    in_no_group : (groups : List Group) → sum_by (in_group []) groups ≡ 0
    in_no_group [] = refl
    in_no_group (group ∷ groups) =
        omega (arith, sum_by-cons (in_group []) group groups, none, in_no_group groups)

    one_more : (object : Object) (objects : List Object) (group : Group)
        → in_group (object ∷ objects) group
        ≡ if_same (group_of memory weak object.chunk) (weight object) group + in_group objects group
    one_more object objects group =
        elim (cases_Bool (is_same group (group_of memory weak object.chunk))) [
          | inl it ↦ rw it (more object (filter (has group) objects))
          | inr other ↦ rw other (omega arith)
        ]

    each_more : (object : Object) (objects : List Object) (groups : List Group)
        → sum_by (in_group (object ∷ objects)) groups
        ≡ sum_by (if_same (group_of memory weak object.chunk) (weight object)) groups + sum_by (in_group objects) groups
    each_more object objects [] = refl
    each_more object objects (group ∷ groups) =
        let given = if_same (group_of memory weak object.chunk) (weight object) in
        omega (
          arith,
          sum_by-cons (in_group (object ∷ objects)) group groups,
          sum_by-cons given group groups,
          sum_by-cons (in_group objects) group groups,
          one_more object objects group,
          each_more object objects groups,
        )

    -- where each object's group is among them, the sums over the groups are together the sum over all
    in_groups : (groups : List Group) → IsOrdered (ComesBefore memory weak marks address) groups → (objects : List Object)
        → ((object : Object) → Contains objects object → Contains groups (group_of memory weak object.chunk))
        → sum_by (in_group objects) groups ≡ sum_of objects
    in_groups groups ordered [] all = in_no_group groups ∙ sym none
    in_groups groups ordered (object ∷ objects) all =
        let here = all object (Contains-head object objects) in
        let once = one_same (group_of memory weak object.chunk) (weight object) groups ordered here in
        let others =
        in_groups groups ordered objects (λ other behind. all other (Contains-tail object objects other behind)) in
        omega (arith, each_more object objects groups, once, more object objects, others)

  -- ---- all groups

  -- where an object is among some, its group has one of them
  has_member : (objects : List Object) (object : Object) → Contains objects object
      → 0 < length (filter (has (group_of memory weak object.chunk)) objects)
  has_member [] object among = absurd (Contains-nil object among)
  has_member (first ∷ objects) object among =
      by (has_member objects object) (Contains-cons_cases first objects object among)
    where
      its : Object → Bool
      its = has (group_of memory weak object.chunk)

      by : (Contains objects object → 0 < length (filter its objects))
          → (first ≡ object) ⊎ Contains objects object → 0 < length (filter its (first ∷ objects))
      by others (inl same) =
          let it : its first ≡ true = ap its same ∙ is_same-itself (group_of memory weak object.chunk) in
          rw it (omega arith)
      by others (inr behind) =
          elim (cases_Bool (its first)) [
            | inl it ↦ rw it (omega arith)
            | inr other ↦ rw other (others behind)
          ]

  module _ (groups : List Group) (listed : AreGroups memory weak marks address groups) where
    among : (object : Object) → Contains (live memory marks) object → Contains groups (group_of memory weak object.chunk)
    among object lives =
        (listed.all (group_of memory weak object.chunk)).1 (has_member (live memory marks) object lives)

    -- the groups have each marked object once
    pub sum-members : sum_by (λ group. length (members memory weak marks group)) groups ≡ length (live memory marks)
    sum-members =
        in_groups (λ object. 1) (λ objects. length objects) refl (λ object objects. omega arith)
        groups listed.ordered (live memory marks) among

    -- and the bytes of its chunk
    pub sum-bytes_of : sum_by (bytes_of memory weak marks) groups ≡ 4 * live_words memory marks
    sum-bytes_of =
        in_groups (λ object. 4 * length object.chunk) (λ objects. 4 * words_in objects) refl
        (λ object objects. omega (arith, words_in-cons object objects)) groups listed.ordered (live memory marks) among

-- ---- rows

-- a sum over what is made of each item
pub sum_by-map : {X Y : Type 0} (f : Y → ℕ) (g : X → Y) (h : X → ℕ) → ((x : X) → f (g x) ≡ h x) → (xs : List X)
    → sum_by f (map g xs) ≡ sum_by h xs
sum_by-map f g h same [] = refl
sum_by-map f g h same (x ∷ xs) =
    omega (arith, sum_by-cons f (g x) (map g xs), sum_by-cons h x xs, same x, sum_by-map f g h same xs)

module _ (memory : Memory) (weak : Weak) (marks : List Bool) where
  abbrev pub members_of : Group → ℕ
  members_of group = length (members memory weak marks group)

  module _ (totals : List GroupTotal) (is : IsHistogram memory weak marks totals) where
    -- the totals count each marked object once
    pub histogram_counts : sum_by (λ total. total.count) totals ≡ length (live memory marks)
    histogram_counts =
        ap (sum_by (λ (total : GroupTotal). total.count)) is.are
        ∙ sum_by-map (λ (total : GroupTotal). total.count) (total_of memory weak marks) members_of (λ group. refl) is.groups
        ∙ sum-members memory weak marks (address_of memory) is.groups is.listed

    -- and the bytes of its chunk
    pub histogram_bytes : sum_by (λ total. total.bytes) totals ≡ 4 * live_words memory marks
    histogram_bytes =
        ap (sum_by (λ (total : GroupTotal). total.bytes)) is.are
        ∙ sum_by-map (λ (total : GroupTotal). total.bytes) (total_of memory weak marks) (bytes_of memory weak marks) (λ group. refl)
        is.groups
        ∙ sum-bytes_of memory weak marks (address_of memory) is.groups is.listed
