-- Lists filled by key and then sorted: more words come first, and the lower key comes first on a
-- tie.
-- Serves `ShareLemmas` of `sqz_histogram` and `MemberLemmas` of `sqz_facts`.
use Rattle.std.proofs.Common.{◌≡◌, ◌⊎◌, ℕ, ◌+◌, ◌<◌, Bool, false, eqb, List, [], ◌∷◌, ◌++◌, map, length, get_or}
use Rattle.std.proofs.Common.{refl, sym, ap, subst, ◌∙◌, arith, inl, inr, true≢false}
use Rattle.std.specs.List.Sorted.{IsPermutation, IsSortedBy, IsStrictlyIncreasing}
use Rattle.std.specs.Ordering.{nat_cmp, eq_by_cmp, is_lt, ordering_then}
use Rattle.std.specs.Cmp.{unsigned_tied, IsStrictWeakOrder}
use Rattle.std.proofs.lemmas.Bool.{cases_lt, cases_eq, eq-eqb, ne_eqb}
use Rattle.std.proofs.lemmas.Cmp.{nat_cmp_total, on_total, back_total, then_total, ranked, by_ranked}
use Rattle.std.proofs.lemmas.List.{length-map, get_or-map, get_or_append_left, get_or_push, length_push, get_or_default}
use Rattle.std.proofs.lemmas.List.Elements.{Contains-get_or}
use Rattle.std.proofs.lemmas.List.MinMax.{ranks_by}
use Rattle.std.proofs.lemmas.List.Sorted.{All-permutation, Contains-permutation, IsPermutation-map, sorted_far}
use Rattle.std.proofs.lemmas.Map.Keys.{IsDistinct-from_sorted, IsDistinct-IsPermutation, apart_from_distinct}
use Rattle.std.proofs.lemmas.Map.Keys.{sorted_from_strictly_increasing}

-- some item has the key
abbrev pub HasKey : {X : Type 0} → (X → ℕ) → X → ℕ → List X → Type 0
HasKey key none k items = (i : ℕ) × (i < length items) × (key (get_or items i none) ≡ k)

-- right items with keys below a bound, by key: one for each wanted key
pub record AreFilled {X : Type 0} (key : X → ℕ) (none : X) (IsRight : X → Type 0) (IsWanted : ℕ → Type 0) (bound : ℕ) (items : List X)
    : Type 0 where
  pub each : (i : ℕ) → i < length items → IsRight (get_or items i none)
  pub below : (i : ℕ) → i < length items → key (get_or items i none) < bound
  pub all : (k : ℕ) → k < bound → IsWanted k → HasKey key none k items
  pub rise : (i j : ℕ) → i < j → j < length items → key (get_or items i none) < key (get_or items j none)

-- more words come first, and else a lower key
abbrev pub Precedes : {X : Type 0} → (X → ℕ) → (X → ℕ) → X → X → Type 0
Precedes key words one other = (words other < words one) ⊎ ((words one ≡ words other) × (key one < key other))

-- the same items in their final order
pub record AreRanked {X : Type 0} (key words : X → ℕ) (none : X) (IsRight : X → Type 0) (IsWanted : ℕ → Type 0) (bound : ℕ)
    (items : List X) : Type 0 where
  pub each : (i : ℕ) → i < length items → IsRight (get_or items i none)
  pub all : (k : ℕ) → k < bound → IsWanted k → HasKey key none k items
  pub ordered : (i j : ℕ) → i < j → j < length items → Precedes key words (get_or items i none) (get_or items j none)

-- what items are sorted by: the number of words, from the highest down, and then the key
abbrev pub is_before : {X : Type 0} → (X → ℕ) → (X → ℕ) → X → X → Bool
is_before key words one other = is_lt (ordering_then (nat_cmp (words other) (words one)) (nat_cmp (key one) (key other)))

-- ---- keys

-- keys are equal in either order
tied_keys : (one other : ℕ) → eq_by_cmp nat_cmp one other ≡ eq_by_cmp nat_cmp other one
tied_keys one other = unsigned_tied one other ∙ either (cases_eq one other) ∙ sym (unsigned_tied other one)
  where
    either : (one ≡ other) ⊎ (one ≡ other → ⊥) → eqb one other ≡ eqb other one
    either (inl same) = rw same refl
    either (inr apart) = rw (ne_eqb one other apart, ne_eqb other one (λ same. apart (sym same))) refl

-- it is an order
is_before-order : {X : Type 0} (key words : X → ℕ) → IsStrictWeakOrder (is_before key words)
is_before-order key words =
    ranks_by (then_total (back_total (on_total words nat_cmp_total)) (on_total key nat_cmp_total)) (λ item. item)

-- the same over their numbers of words and keys: if the second of two items does not come before
-- the first, the first precedes the second
not_before : (a b k l : ℕ) → is_lt (ordering_then (nat_cmp a b) (nat_cmp l k)) ≡ false → (k ≡ l → ⊥)
    → (b < a) ⊎ ((a ≡ b) × (k < l))
not_before a b k l late apart =
    by_ranked (a < b) (a ≡ b) (b < a) (nat_cmp a b) (ranked a b (nat_cmp a b) refl)
    (λ less lt. absurd (true≢false (rw less at late)))
    (λ equal same. inr (same, by_key (rw equal at late)))
    (λ greater lt. inl lt)
  where
    by_key : is_lt (nat_cmp l k) ≡ false → k < l
    by_key late =
        by_ranked (l < k) (l ≡ k) (k < l) (nat_cmp l k) (ranked l k (nat_cmp l k) refl)
        (λ less lt. absurd (true≢false (rw less at late)))
        (λ equal same. absurd (apart (sym same)))
        (λ greater lt. lt)

module _ {X : Type 0} (key : X → ℕ) (none : X) (IsRight : X → Type 0) (IsWanted : ℕ → Type 0) (bound : ℕ) (items : List X)
    (are : AreFilled key none IsRight IsWanted bound items) where
  -- ---- one more key

  -- a key that is not wanted has no item
  pub AreFilled-more_no : (IsWanted bound → ⊥) → AreFilled key none IsRight IsWanted (bound + 1) items
  AreFilled-more_no unwanted =
      record {
        each = are.each;
        below = λ i lt. omega (arith, are.below i lt);
        all = λ k lt wanted.
            elim (cases_lt k bound) [
              | inl low ↦ are.all k low wanted
              | inr high ↦ (let same : k ≡ bound = omega arith in absurd (unwanted (subst IsWanted same wanted)))
            ];
        rise = are.rise;
      }

  module _ (item : X) (key_is : key item ≡ bound) (is : IsRight item) where
    -- the items with the next one
    abbrev pushed : List X
    pushed = items ++ item ∷ []

    -- the list is one longer
    long : length pushed ≡ length items + 1
    long = length_push items item

    -- the items before the last one are as they were
    old : (i : ℕ) → i < length items → get_or pushed i none ≡ get_or items i none
    old i lt = get_or_append_left items (item ∷ []) none i lt

    -- so are their keys
    old_key : (i : ℕ) → i < length items → key (get_or pushed i none) ≡ key (get_or items i none)
    old_key i lt = ap key (old i lt)

    -- the last one is the new one
    new : get_or pushed (length items) none ≡ item
    new = get_or_push items item none (length items) refl

    -- its key is the bound
    new_key : key (get_or pushed (length items) none) ≡ bound
    new_key = ap key new ∙ key_is

    -- a wanted key has the next item
    pub AreFilled-more_yes : AreFilled key none IsRight IsWanted (bound + 1) pushed
    AreFilled-more_yes =
        record {
          each = λ i lt.
              elim (cases_lt i (length items)) [
                | inl low ↦ subst IsRight (sym (old i low)) (are.each i low)
                | inr high ↦
                    let last : i ≡ length items = omega (arith, long) in
                    rw last (subst IsRight (sym new) is)
              ];
          below = λ i lt.
              elim (cases_lt i (length items)) [
                | inl low ↦ omega (arith, old_key i low, are.below i low)
                | inr high ↦
                    let last : i ≡ length items = omega (arith, long) in rw last (omega (arith, new_key))
              ];
          all = λ k lt wanted.
              elim (cases_lt k bound) [
                | inl low ↦
                    let found = are.all k low wanted in
                    (found.0, omega (arith, long, found.1), old_key found.0 found.1 ∙ found.2)
                | inr high ↦
                    let same : bound ≡ k = omega arith in (length items, omega (arith, long), new_key ∙ same)
              ];
          rise = λ i j lt in_pushed.
              let low : i < length items = omega (arith, long) in
              elim (cases_lt j (length items)) [
                | inl before ↦ omega (arith, old_key i low, old_key j before, are.rise i j lt before)
                | inr behind ↦
                    let last : j ≡ length items = omega (arith, long) in
                    rw last (omega (arith, old_key i low, new_key, are.below i low))
              ];
        }

  -- ---- sorting

  -- keys rise along the items before they are sorted
  keys_rise : IsStrictlyIncreasing (map key items)
  keys_rise k lt =
      let long = length-map items key in
      let inside : k + 1 < length items = omega (arith, long) in
      let low : k < length items = omega arith in
      let here = get_or-map key items k none 0 low in
      let next = get_or-map key items (k + 1) none 0 inside in
      omega (arith, here, next, are.rise k (k + 1) (omega arith) inside)

  module _ (sorted : List X) (moved : IsPermutation items sorted) where
    -- each item is right still
    each_sorted : (i : ℕ) → i < length sorted → IsRight (get_or sorted i none)
    each_sorted i lt =
        All-permutation IsRight items sorted moved
        (λ k d inside. subst IsRight (get_or_default items k none d inside) (are.each k inside)) i none lt

    -- each wanted key has an item still
    all_sorted : (k : ℕ) → k < bound → IsWanted k → HasKey key none k sorted
    all_sorted k lt wanted =
        let found = are.all k lt wanted in
        let item = get_or items found.0 none in
        let there = Contains-permutation items sorted item moved (Contains-get_or items found.0 none found.1) in
        let same = get_or_default sorted there.0 none item there.1 ∙ there.2 in
        (there.0, there.1, ap key same ∙ found.2)

    -- no two have one key
    keys_apart : (i j : ℕ) → i < j → j < length sorted → key (get_or sorted i none) ≡ key (get_or sorted j none) → ⊥
    keys_apart i j lt inside same =
        let keys = map key items in
        let distinct = IsDistinct-from_sorted nat_cmp keys (sorted_from_strictly_increasing keys keys_rise) in
        let still = IsDistinct-IsPermutation (eq_by_cmp nat_cmp) tied_keys keys (map key sorted)
        (IsPermutation-map key items sorted moved) distinct in
        let long = length-map sorted key in
        let apart = apart_from_distinct (eq_by_cmp nat_cmp) (map key sorted) i j 0 still lt (omega (arith, long)) in
        let low : i < length sorted = omega arith in
        let here = get_or-map key sorted i none 0 low in
        let there = get_or-map key sorted j none 0 inside in
        let one = get_or (map key sorted) i 0 in
        let other = get_or (map key sorted) j 0 in
        let equal : one ≡ other = here ∙ same ∙ sym there in
        true≢false (sym (eq-eqb one other equal) ∙ sym (unsigned_tied one other) ∙ apart)

    -- sorted items are in their final order
    pub AreRanked-sorted : (words : X → ℕ) → IsSortedBy (is_before key words) sorted → AreRanked key words none IsRight IsWanted bound sorted
    AreRanked-sorted words in_order =
        record {
          each = each_sorted;
          all = all_sorted;
          ordered = λ i j lt inside.
              not_before (words (get_or sorted i none)) (words (get_or sorted j none))
              (key (get_or sorted i none)) (key (get_or sorted j none))
              (sorted_far (is_before key words) (is_before-order key words) sorted in_order i j none (omega arith) inside)
              (keys_apart i j lt inside);
        }
