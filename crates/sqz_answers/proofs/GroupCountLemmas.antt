-- How many of some objects each group has: by key, and as a list.
-- Serves `group_counts::tallies_of` and `group_counts::group_counts`.
use Rattle.std.proofs.Common.{◌≡◌, ◌==◌, ℕ, zero, suc, ◌+◌, ◌<◌, Bool, true, true≢false, cond, eqb, List, [], ◌∷◌, length, map, take}
use Rattle.std.proofs.Common.{All, get_or, Option, Some, refl, sym, ap, subst, ◌∙◌, arith, inl, inr}
use Rattle.std.specs.Prelude.{Contains, count_by, sum_by, unwrap_or}
use Rattle.std.specs.Map.{values_of}
use Rattle.std.specs.BTreeMap as tree
use Rattle.std.specs.BTreeMap.{BTreeMap}
use Rattle.std.specs.List.{AllPairs}
use Rattle.std.specs.Ordering.{nat_cmp, eq_by_cmp}
use Rattle.std.proofs.lemmas.Bool.{cases_Bool, cases_eq, cases_lt, eq-eqb, ne_eqb, eqb-true, false_from_ne_true}
use Rattle.std.proofs.lemmas.Cmp.{nat_cmp_total, eq_by_cmp_equiv, ranked, by_ranked}
use Rattle.std.proofs.lemmas.List.{get_or-map, length-map}
use Rattle.std.proofs.lemmas.List.Elements.{All-map, Contains-get_or}
use Rattle.std.proofs.lemmas.List.Sums.{sum_by-cons, get_or-le-sum_by, count_by_more_yes, count_by_more_no}
use Rattle.std.proofs.lemmas.Map.Keys.{IsDistinct-from_sorted, below_from_sorted}
use Rattle.std.proofs.lemmas.Iterator.Adapters.{option_map_id}
use Rattle.std.proofs.lemmas.Map.Entries.{sum_by-insert_entry}
use Rattle.std.proofs.lemmas.Map.Views.{Contains-from_lookup, lookup-from_Contains}
use Rattle.std.proofs.lemmas.Option.{same_Some}
use Rattle.sqz_image.specs.Objects.{Memory, object_count, chunk_words}
use Rattle.sqz_trace.specs.declared.weak.Weak.{Weak}
use Rattle.sqz_histogram.specs.declared.group.Group.{Group}
use Rattle.sqz_histogram.specs.Groups.{IsInside, is_same}
use Rattle.sqz_histogram.specs.Keys.{key_of, group_with}
use Rattle.sqz_histogram.proofs.GroupLemmas.{group_of-inside, group_with-below, group_with-above, group_with-key_of, is_same-key, is_same-other}
use Rattle.sqz_answers.specs.declared.group_counts.GroupCount.{GroupCount}
use Rattle.sqz_answers.specs.GroupCounts.{AreCountsByKey, AreTallies, count_at, group_at, key_at, number_in, number_with, some_number}

-- ---- numbers, and lists

-- keys that the map takes for the same are the same
pub exact : (x y : ℕ) → eq_by_cmp nat_cmp x y ≡ true → x ≡ y
exact x y e =
    by_ranked (x < y) (x ≡ y) (y < x) (nat_cmp x y) (ranked x y (nat_cmp x y) refl)
    (λ less lt. absurd (true≢false (sym (rw less at e))))
    (λ equal same. same)
    (λ greater lt. absurd (true≢false (sym (rw greater at e))))

some_number-positive : (n : ℕ) → 0 < n → some_number n ≡ Some n
some_number-positive zero lt = absurd (omega (arith, lt))
some_number-positive (suc n) lt = refl

some_number-back : (n v : ℕ) → some_number n ≡ Some v → (n ≡ v) × (0 < v)
some_number-back zero v e = absurd cc
some_number-back (suc n) v e = (let same = same_Some (suc n) v e in (same, omega (arith, same)))

unwrap_or-some_number : (n : ℕ) → unwrap_or (some_number n) 0 ≡ n
unwrap_or-some_number zero = refl
unwrap_or-some_number (suc n) = refl

Contains-map : {X Y : Type 0} (f : X → Y) (xs : List X) (x : X) → Contains xs x → Contains (map f xs) (f x)
Contains-map f xs x (i, lt, is) =
    let long = length-map xs f in (i, omega (arith, lt, long), get_or-map f xs i x (f x) lt ∙ ap f is)

-- if some element is counted, there is its place
some_counted : {X : Type 0} (p : X → Bool) (xs : List X) (d : X) → 0 < count_by p xs
    → (i : ℕ) × (i < length xs) × (p (get_or xs i d) ≡ true)
some_counted p [] d lt = absurd (omega (arith, lt))
some_counted p (x ∷ xs) d lt =
    elim (cases_Bool (p x)) [
      | inl passes ↦ (0, omega arith, passes)
      | inr fails ↦
          let first : ◌≡◌ {A = ℕ} (cond (p x) 1 0) 0 = rw fails refl in
          let both = sum_by-cons (λ x. cond (p x) 1 0) x xs in
          let fewer : 0 < count_by p xs = omega (arith, lt, first, both) in
          let (i, inside, passes) = some_counted p xs d fewer in (suc i, omega (arith, inside), passes)
    ]

-- an element that passes is counted
counted : {X : Type 0} (p : X → Bool) (xs : List X) (i : ℕ) (d : X) → i < length xs → p (get_or xs i d) ≡ true → 0 < count_by p xs
counted p xs i d lt passes =
    let one : ◌≡◌ {A = ℕ} (cond (p (get_or xs i d)) 1 0) 1 = rw passes refl in
    omega (arith, one, get_or-le-sum_by (λ x. cond (p x) 1 0) xs i d lt)

-- a number is raised by one
pub sum-raised : (old new : BTreeMap ℕ ℕ) (key before : ℕ) → tree.IsOrdered nat_cmp old
    → before ≡ unwrap_or (tree.get nat_cmp old key) 0 → new.entries ≡ tree.insert_entry nat_cmp old.entries key (before + 1)
    → sum_by (λ number. number) (values_of new.entries) ≡ sum_by (λ number. number) (values_of old.entries) + 1
sum-raised old new key before ordered is_before are =
    let sums = sum_by-insert_entry (λ (number : ℕ). number) nat_cmp_total old.entries key (before + 1) ordered in
    let same = ap (λ (number : Option ℕ). unwrap_or number 0) (option_map_id (tree.get nat_cmp old key)) in
    let after = ap (λ (entries : List (ℕ × ℕ)). sum_by (λ (number : ℕ). number) (values_of entries)) are in
    omega (arith, sums, same, is_before, after)

pub sum-counts : (count : ℕ) (entries : List (ℕ × ℕ))
    → sum_by (λ one. one.objects) (map (count_at count) entries) ≡ sum_by (λ number. number) (values_of entries)
sum-counts count [] = refl
sum-counts count (entry ∷ entries) =
    let rest = sum-counts count entries in
    let one = sum_by-cons (λ (one : GroupCount). one.objects) (count_at count entry) (map (count_at count) entries) in
    let other = sum_by-cons (λ (number : ℕ). number) entry.1 (values_of entries) in
    omega (arith, rest, one, other)

-- ---- keys

module _ (count : ℕ) where
  is_same-eqb : (key : ℕ) (group : Group) → IsInside count group → is_same (group_with count key) group ≡ eqb (key_of count group) key
  is_same-eqb key group inside =
      elim (cases_eq (key_of count group) key) [
        | inl same ↦
            ap (λ (k : ℕ). is_same (group_with count k) group) (sym same) ∙ is_same-key count group inside ∙ sym (eq-eqb (key_of count group) key same)
        | inr apart ↦
            is_same-other count key group inside (λ same. apart (sym same)) ∙ sym (ne_eqb (key_of count group) key apart)
      ]

  key_of-group_with : (key : ℕ) → key_of count (group_with count key) ≡ key
  key_of-group_with key =
      elim (cases_lt key count) [
        | inl lt ↦ ap (key_of count) (group_with-below count key lt)
        | inr ge ↦ (let there = ap (key_of count) (group_with-above count key ge) in omega (arith, there, ge))
      ]

module _ (memory : Memory) (weak : Weak) where
  abbrev n : ℕ
  n = object_count memory

  abbrev group_of_object : ℕ → Group
  group_of_object = group_at memory weak

  abbrev key_of_object : ℕ → ℕ
  key_of_object = key_at memory weak

  at-inside : (object : ℕ) → IsInside n (group_of_object object)
  at-inside object = group_of-inside memory weak (chunk_words memory object)

  number_in-key : (objects : List ℕ) (key : ℕ) → number_in memory weak objects (group_with n key) ≡ number_with memory weak objects key
  number_in-key objects key =
      λ i. count_by (λ object. is_same-eqb n key (group_of_object object) (at-inside object) i) objects

  -- ---- one object more

  module _ (objects : List ℕ) (i d : ℕ) (lt : i < length objects) (old new : BTreeMap ℕ ℕ)
      (are : AreTallies memory weak (take i objects) old) (key before : ℕ) (is_key : key ≡ key_of_object (get_or objects i d))
      (is_before : before ≡ unwrap_or (tree.get nat_cmp old key) 0) (updates : tree.Updates nat_cmp old new key (Some (before + 1))) where
    pub AreTallies-more : AreTallies memory weak (take (i + 1) objects) new
    AreTallies-more other =
        elim (cases_eq key other) [
          | inl same ↦
              let more = count_by_more_yes (λ object. key_of_object object == other) objects i d lt
              (eq-eqb (key_of_object (get_or objects i d)) other (sym is_key ∙ same)) in
              let number = is_before ∙ ap (λ (number : Option ℕ). unwrap_or number 0) (are key)
              ∙ unwrap_or-some_number (number_with memory weak (take i objects) key) in
              let here = number_with memory weak (take (i + 1) objects) other in
              let old_same = ap (number_with memory weak (take i objects)) same in
              let total : before + 1 ≡ here = omega (arith, more, number, old_same) in
              ap (tree.get nat_cmp new) (sym same) ∙ updates.1 ∙ ap (λ (number : ℕ). Some number) total
              ∙ sym (some_number-positive here (omega (arith, total)))
          | inr apart ↦
              let same = count_by_more_no (λ object. key_of_object object == other) objects i d lt
              (ne_eqb (key_of_object (get_or objects i d)) other (λ same. apart (is_key ∙ same))) in
              updates.2 other (false_from_ne_true (eq_by_cmp nat_cmp key other) (λ e. apart (exact key other e)))
              ∙ are other ∙ ap some_number (sym same)
        ]

  -- ---- tallies as a list

  module _ (objects : List ℕ) (tallies : BTreeMap ℕ ℕ) (ordered : tree.IsOrdered nat_cmp tallies)
      (are : AreTallies memory weak objects tallies) where
    abbrev entries : List (ℕ × ℕ)
    entries = tallies.entries

    -- what is told of an entry
    entry-number : (i : ℕ) (d : ℕ × ℕ) → i < length entries
        → (number_with memory weak objects (get_or entries i d).0 ≡ (get_or entries i d).1) × (0 < (get_or entries i d).1)
    entry-number i d lt =
        let entry = get_or entries i d in
        let found = lookup-from_Contains (eq_by_cmp_equiv nat_cmp_total) entry.0 entry.1 entries
        (IsDistinct-from_sorted nat_cmp (tree.keys tallies) ordered) (Contains-get_or entries i d lt) in
        some_number-back (number_with memory weak objects entry.0) entry.1 (sym (are entry.0) ∙ found)

    all-there : All (λ object. Contains (map (λ count. count.group) (map (count_at n) entries)) (group_of_object object)) objects
    all-there i d lt =
        let object = get_or objects i d in
        let key = key_of_object object in
        let number = number_with memory weak objects key in
        let some = counted (λ other. key_of_object other == key) objects i d lt (eq-eqb key key refl) in
        let found = are key ∙ some_number-positive number some in
        let there = Contains-from_lookup exact key number entries found in
        let listed = Contains-map (λ (count : GroupCount). count.group) (map (count_at n) entries) (count_at n (key, number))
        (Contains-map (count_at n) entries (key, number) there) in
        subst (Contains (map (λ (count : GroupCount). count.group) (map (count_at n) entries)))
        (group_with-key_of n (group_of_object object) (at-inside object)) listed

    in-order : AllPairs (λ one other. key_of n one.group < key_of n other.group) (map (count_at n) entries)
    in-order i j d lt inside =
        let long = length-map entries (count_at n) in
        let keys_long = length-map entries (λ (entry : ℕ × ℕ). entry.0) in
        let none : ℕ × ℕ = (0, 0) in
        let low : j < length entries = omega (arith, inside, long) in
        let first : i < length entries = omega (arith, low, lt) in
        let one = ap (λ (count : GroupCount). key_of n count.group) (get_or-map (count_at n) entries i none d first)
        ∙ key_of-group_with n (get_or entries i none).0 in
        let other = ap (λ (count : GroupCount). key_of n count.group) (get_or-map (count_at n) entries j none d low)
        ∙ key_of-group_with n (get_or entries j none).0 in
        let one_key = get_or-map (λ (entry : ℕ × ℕ). entry.0) entries i none 0 first in
        let other_key = get_or-map (λ (entry : ℕ × ℕ). entry.0) entries j none 0 low in
        let less = below_from_sorted (tree.keys tallies) i j 0 ordered lt (omega (arith, keys_long, low)) in
        omega (arith, one, other, one_key, other_key, less)

    pub AreCountsByKey-tallies : AreCountsByKey memory weak objects (map (count_at n) entries)
    AreCountsByKey-tallies =
        record {
          all = all-there;
          each = All-map (λ (count : GroupCount). (count.objects ≡ number_in memory weak objects count.group) × (0 < count.objects)) (count_at n) entries
              (λ i d lt.
              let is = entry-number i d lt in
              (sym is.0 ∙ sym (number_in-key objects (get_or entries i d).0), is.1));
          ordered = in-order;
        }

    pub counts-inside : All (λ count. IsInside n count.group) (map (count_at n) entries)
    counts-inside =
        All-map (λ (count : GroupCount). IsInside n count.group) (count_at n) entries
        (λ i d lt.
        let is = entry-number i d lt in
        let key = (get_or entries i d).0 in
        let (place, low, same) = some_counted (λ object. key_of_object object == key) objects 0 (omega (arith, is.0, is.1)) in
        let object = get_or objects place 0 in
        subst (IsInside n)
        (sym (group_with-key_of n (group_of_object object) (at-inside object))
        ∙ ap (group_with n) (eqb-true (key_of_object object) key same))
        (at-inside object))
