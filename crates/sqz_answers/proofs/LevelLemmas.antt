-- The level below a row, once its objects are found and sorted.
-- Serves `levels::TopTree::in_order` and `::level_of`, `rows::push_rows`, `TopRowLemmas` and `LevelSumLemmas`.
use Rattle.std.proofs.Common.{◌≡◌, ◌≢◌, ◌+◌, ◌*◌, ◌<◌, ◌≤◌, ℕ, Bool, false, true≢false, List, [], ◌∷◌, length, map, get_or, eqb, All}
use Rattle.std.proofs.Common.{Some, refl, sym, ap, subst, ◌∙◌, arith, inl, inr}
use Rattle.std.specs.Prelude.{Contains, slice_index, slice_index_or, sum_by}
use Rattle.std.specs.List.{AllPairs}
use Rattle.std.specs.List.Sorted.{IsPermutation, IsSortedBy}
use Rattle.std.specs.Ordering.{nat_cmp, is_lt, ordering_then}
use Rattle.std.specs.Cmp.{IsStrictWeakOrder}
use Rattle.std.specs.declared.cmp.Reverse.{Reverse}
use Rattle.std.proofs.lemmas.Bool.{cases_eq, ne_eqb}
use Rattle.std.proofs.lemmas.Bool.Decides.{Decides-eqb}
use Rattle.std.proofs.lemmas.Cmp.{nat_cmp_total, on_total, back_total, then_total, ranked, by_ranked}
use Rattle.std.proofs.lemmas.List.{get_or-map, get_or_default, length-map}
use Rattle.std.proofs.lemmas.List.Elements.{All-contains, All-map, Contains-get_or}
use Rattle.std.proofs.lemmas.List.MinMax.{ranks_by}
use Rattle.std.proofs.lemmas.List.Sorted.{All-permutation, Contains-permutation, IsPermutation-map, IsPermutation-sym, sorted_far}
use Rattle.std.proofs.lemmas.Map.Keys.{IsDistinct-IsPermutation}
use Rattle.std.proofs.lemmas.Map.Made.{AllPairs-from_IsDistinct, IsDistinct-from_AllPairs}
use Rattle.sqz_image.specs.Objects.{Memory, object_count, chunk_words}
use Rattle.sqz_trace.specs.declared.weak.Weak.{Weak}
use Rattle.sqz_dominators.specs.Children.{retained_bytes}
use Rattle.sqz_dominators.specs.Retained.{DominatorTree, AreDominators}
use Rattle.sqz_answers.specs.declared.levels.MeasuredObject.{MeasuredObject}
use Rattle.sqz_answers.specs.Levels.{parent_of, held_value, is_before, is_joined, IsPart, IsBelow, RetainsMore, IsLevel}
use Rattle.sqz_answers.specs.Levels.IsPart.{itself, joined}
use Rattle.sqz_answers.specs.Splits.{IsSplit}
use Rattle.sqz_answers.specs.Variables.{Variables}
use Rattle.sqz_answers.proofs.SplitLemmas.{few_apart, child_inside}

-- ---- the order

module _ (tree : DominatorTree) where
  -- what objects are sorted by
  abbrev pub measured_key : MeasuredObject → Reverse ℕ × ℕ
  measured_key measured = (record { 0 = measured.retained }, measured.object)

  abbrev pub object_of : MeasuredObject → ℕ
  object_of measured = measured.object

  abbrev pub measured_by : ℕ → MeasuredObject
  measured_by object = record { object = object; retained = retained_bytes tree object }

  abbrev pub IsMeasured : MeasuredObject → Type 0
  IsMeasured measured = measured ≡ measured_by measured.object

  abbrev pub is_before_measured : MeasuredObject → MeasuredObject → Bool
  is_before_measured one other = is_lt (ordering_then (nat_cmp other.retained one.retained) (nat_cmp one.object other.object))

  -- objects that were measured are these objects
  measured_objects : (objects : List ℕ) → map object_of (map measured_by objects) ≡ objects
  measured_objects [] = refl
  measured_objects (object ∷ objects) = ap (λ rest. object ∷ rest) (measured_objects objects)

  -- sorted with what they retain they are in another order
  pub IsPermutation-measured : (objects : List ℕ) (sorted : List MeasuredObject) → IsPermutation (map measured_by objects) sorted
      → IsPermutation objects (map object_of sorted)
  IsPermutation-measured objects sorted moved =
      subst (λ all. IsPermutation all (map object_of sorted)) (measured_objects objects)
      (IsPermutation-map object_of (map measured_by objects) sorted moved)

  -- with what each retains
  pub IsMeasured-sorted : (objects : List ℕ) (sorted : List MeasuredObject) → IsPermutation (map measured_by objects) sorted
      → All IsMeasured sorted
  IsMeasured-sorted objects sorted moved =
      All-permutation IsMeasured (map measured_by objects) sorted moved
      (All-map IsMeasured measured_by objects (λ k d lt. refl))

  -- objects sorted with what they retain are sorted
  pub in_order-measured : (sorted : List MeasuredObject) → All IsMeasured sorted
      → IsSortedBy is_before_measured sorted → IsSortedBy (is_before tree) (map object_of sorted)
  in_order-measured sorted measured in_order k d low below =
      let long = length-map sorted object_of in
      let none : MeasuredObject = record { object = d; retained = 0 } in
      let next = slice_index_or sorted (k + 1) none in
      let here = slice_index_or sorted k none in
      let next_inside : k + 1 < length sorted = omega (arith, below, long) in
      let here_inside : k < length sorted = omega (arith, next_inside) in
      rw (get_or-map object_of sorted (k + 1) none d next_inside, get_or-map object_of sorted k none d here_inside)
      (subst (λ (one : MeasuredObject). is_before_measured (measured_by next.object) one ≡ false) (measured k none here_inside)
      (subst (λ (one : MeasuredObject). is_before_measured one here ≡ false) (measured (k + 1) none next_inside)
      (in_order k none low next_inside)))

  is_before-order : IsStrictWeakOrder (is_before tree)
  is_before-order =
      ranks_by (then_total (back_total (on_total (retained_bytes tree) nat_cmp_total)) (on_total (λ (object : ℕ). object) nat_cmp_total))
      (λ object. object)

  -- of two objects, where the second does not come before the first
  not_before : (one other : ℕ) → is_before tree other one ≡ false → one ≢ other → RetainsMore tree one other
  not_before one other late apart =
      let here = retained_bytes tree one in
      let there = retained_bytes tree other in
      by_ranked (here < there) (here ≡ there) (there < here) (nat_cmp here there) (ranked here there (nat_cmp here there) refl)
      (λ less lt. absurd (true≢false (rw less at late)))
      (λ equal same. inr (same, by_index (rw equal at late)))
      (λ greater lt. inl lt)
    where
      by_index : is_lt (nat_cmp other one) ≡ false → one < other
      by_index late =
          by_ranked (other < one) (other ≡ one) (one < other) (nat_cmp other one) (ranked other one (nat_cmp other one) refl)
          (λ less lt. absurd (true≢false (rw less at late)))
          (λ equal same. absurd (apart (sym same)))
          (λ greater lt. lt)

  pub RetainsMore-apart : (one other : ℕ) → RetainsMore tree one other → one ≢ other
  RetainsMore-apart one other (inl more) same = (let retains = ap (retained_bytes tree) same in absurd (omega (arith, more, retains)))
  RetainsMore-apart one other (inr tied) same = absurd (omega (arith, tied.1, same))

  flips : (one other : ℕ) → eqb one other ≡ eqb other one
  flips one other =
      elim (cases_eq one other) [
        | inl same ↦ rw same refl
        | inr apart ↦ ne_eqb one other apart ∙ sym (ne_eqb other one (λ same. apart (sym same)))
      ]

  RetainsMore-sorted : (below sorted : List ℕ) → AllPairs (λ one other. one ≢ other) below → IsPermutation below sorted
      → IsSortedBy (is_before tree) sorted → AllPairs (RetainsMore tree) sorted
  RetainsMore-sorted below sorted once moved in_order i j d lt inside =
      let still = IsDistinct-IsPermutation eqb flips below sorted moved (IsDistinct-from_AllPairs Decides-eqb below once) in
      not_before (get_or sorted i d) (get_or sorted j d) (sorted_far (is_before tree) is_before-order sorted in_order i j d (omega arith) inside)
      (AllPairs-from_IsDistinct Decides-eqb sorted still i j d lt inside)

-- ---- the level

module _ (memory : Memory) (tree : DominatorTree) (variables : Variables) (object : ℕ) (parts below : List ℕ)
    (split : IsSplit tree variables object (length parts) parts below) where
  all_parts : {part : ℕ} → IsPart tree variables object part → Contains parts part
  all_parts itself = (0, split.some, get_or_default parts 0 object 0 split.some ∙ split.first)
  all_parts (joined part child is is_child passes) =
      let there = all_parts is in
      split.closed there.0 child there.1
      (is_child ∙ ap (λ (n : ℕ). Some n) (sym (get_or_default parts there.0 0 part there.1 ∙ there.2))) passes

  found_below : (child : ℕ) → Contains below child → IsBelow tree variables object child
  found_below child there =
      let led = split.led_below there.0 there.1 in
      let same : slice_index below there.0 ≡ child = get_or_default below there.0 0 child there.1 ∙ there.2 in
      record {
        part = slice_index parts led.0;
        is_part = split.are_parts led.0 0 led.1;
        is_child = sym (ap (parent_of tree) same) ∙ led.2;
        apart = All-contains (λ child. is_joined variables (held_value tree variables object) child ≡ false) below child split.apart there;
      }

  all_below : (child : ℕ) → IsBelow tree variables object child → Contains below child
  all_below child is =
      let there = all_parts is.is_part in
      split.closed_below there.0 child there.1
      (is.is_child ∙ ap (λ (n : ℕ). Some n) (sym (get_or_default parts there.0 0 is.part there.1 ∙ there.2))) is.apart

  pub IsLevel-sorted : (own : ℕ) (sorted : List ℕ) → own ≡ 4 * sum_by (λ part. length (chunk_words memory part)) parts
      → IsPermutation below sorted → IsSortedBy (is_before tree) sorted → IsLevel memory tree variables object own sorted
  IsLevel-sorted own sorted own_is moved in_order =
      record {
        parts = parts;
        are_parts = λ part. (λ there. All-contains (IsPart tree variables object) parts part split.are_parts there, λ is. all_parts is);
        once = split.once;
        own_is = own_is;
        are_below = λ child. (
          λ there. found_below child (Contains-permutation sorted below child (IsPermutation-sym below sorted moved) there),
          λ is. Contains-permutation below sorted child moved (all_below child is),
        );
        ordered = RetainsMore-sorted tree below sorted split.once_below moved in_order;
      }

-- ---- the objects below

module _ (memory : Memory) (weak : Weak) (tree : DominatorTree) (variables : Variables) (dominators : AreDominators memory weak tree)
    (object own : ℕ) (below : List ℕ) (level : IsLevel memory tree variables object own below) where
  pub below-objects : All (λ child. child < object_count memory) below
  below-objects k d lt =
      let is = (level.are_below (get_or below k d)).0 (Contains-get_or below k d lt) in
      child_inside memory weak tree variables dominators (get_or below k d) is.part is.is_child

  pub below-count : length below ≤ object_count memory
  below-count =
      few_apart below (object_count memory) (λ i j d lt inside. RetainsMore-apart tree _ _ (level.ordered i j d lt inside)) below-objects
