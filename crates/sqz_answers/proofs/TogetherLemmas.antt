-- What the outermost objects of a group retain is what its objects retain together.
-- Serves the functions of `together` and of `retained_histograms`, and
-- `laws::groups_retain_within_bounds`.
use Rattle.std.proofs.Common.{◌≡◌, ◌&&◌, ◌||◌, ℕ, zero, suc, ◌+◌, ◌*◌, ◌^◌, ◌<◌, ◌≤◌, Bool, true, false, true≢false, List, [], ◌∷◌, length, map}
use Rattle.std.proofs.Common.{All, eqb, get_or, set, replicate, add-one, refl, sym, ap, subst, ◌∙◌, arith, inl, inr, Some}
use Rattle.std.specs.Prelude.{slice_index}
use Rattle.std.specs.List.{range_with_len}
use Rattle.std.proofs.lemmas.Bool.{cases_Bool, cases_eq, cases_lt, eqb-true, eq-eqb, ne_eqb, false_from_ne_true}
use Rattle.std.proofs.lemmas.List.{length-map, length-set, length-replicate, get_or_past, get_or-replicate, get_or-set_same, get_or-set_other}
use Rattle.std.proofs.lemmas.List.Elements.{All-map}
use Rattle.std.proofs.lemmas.List.FromFn.{get_or-map-range_with_len, length-range_with_len}
use Rattle.std.proofs.lemmas.Option.{same_Some}
use Rattle.sqz_image.specs.Objects.{Memory, Object, objects, object_at, object_count, chunk_words, find}
use Rattle.sqz_trace.specs.declared.weak.Weak.{Weak}
use Rattle.sqz_trace.specs.Dead.{bytes_in}
use Rattle.sqz_trace.specs.Graph.{Graph, Leads, is_marked}
use Rattle.sqz_trace.specs.Live.{live}
use Rattle.sqz_trace.specs.Reachability.{graph_from, IsReachability}
use Rattle.sqz_trace.proofs.SoundMarkingLemmas.{both_true}
use Rattle.sqz_histogram.specs.declared.group.Group.{Group}
use Rattle.sqz_histogram.specs.declared.group.GroupTotal.{GroupTotal}
use Rattle.sqz_histogram.specs.Groups.{IsInside, group_of}
use Rattle.sqz_histogram.specs.Keys.{key_of, key_count, group_with}
use Rattle.sqz_histogram.proofs.GroupLemmas.{group_of-inside, key_of-lt, group_with-key_of}
use Rattle.sqz_dominators.specs.Children.{retained_bytes}
use Rattle.sqz_dominators.specs.Dominators.{Dominates}
use Rattle.sqz_dominators.specs.declared.retained.Retained.{Retained}
use Rattle.sqz_dominators.specs.Retained.{DominatorTree, AreDominators, IsRetained}
use Rattle.sqz_dominators.specs.Totals.{sum_below}
use Rattle.sqz_dominators.proofs.DominatorLawLemmas.{chain}
use Rattle.sqz_dominators.proofs.ObjectSumLemmas.{sum_below-marked}
use Rattle.sqz_dominators.proofs.TotalLemmas.{sum_below-le, sum_below-same, sum_below-more, sum_below-none}
use Rattle.sqz_answers.specs.declared.outermost.GroupedTree.{GroupedTree}
use Rattle.sqz_answers.specs.Outermost.{AreOutermost, AreOutermostIn, IsGroupedTree}
use Rattle.sqz_answers.specs.declared.retained_histograms.RetainedTotal.{RetainedTotal}
use Rattle.sqz_answers.specs.RetainedHistograms.{AreRetainedTotals, retained_total}
use Rattle.sqz_answers.specs.Together.{MarksDominatedByOne, AreDominatedBytes, AreRetainedByGroup, AreRetainedByKeys, AreRetainedByGroups, AreGroupKeys}
use Rattle.sqz_answers.proofs.DescentLemmas.{reached-inside}
use Rattle.sqz_answers.proofs.DominanceLemmas.{prefix_of, Dominates-reached, Dominates-trans}
use Rattle.sqz_answers.proofs.LevelSumLemmas.{if_so, sum_below-add, marks_of}

-- ---- sums and tests below a bound

sum_below-swap : (f : ℕ → ℕ → ℕ) (most bound : ℕ)
    → sum_below (λ j. sum_below (f j) bound) most ≡ sum_below (λ i. sum_below (λ j. f j i) most) bound
sum_below-swap f zero bound = sym (sum_below-none (λ i. 0) bound (λ i lt. refl))
sum_below-swap f (suc most) bound =
    let others = sum_below-swap f most bound in
    let both = sum_below-add (λ i. sum_below (λ j. f j i) most) (f most) bound in
    omega (arith, others, both)

sum_below-times : (f g : ℕ → ℕ) (bound : ℕ) → ((i : ℕ) → i < bound → f i ≡ 4 * g i) → sum_below f bound ≡ 4 * sum_below g bound
sum_below-times f g zero same = refl
sum_below-times f g (suc bound) same =
    omega (arith, sum_below-times f g bound (λ i lt. same i (omega arith)), same bound (omega arith))

abbrev any_below : (ℕ → Bool) → ℕ → Bool
any_below test zero = false
any_below test (suc bound) = any_below test bound || test bound

or_right : (b : Bool) → (b || true) ≡ true
or_right true = refl
or_right false = refl

any-there : (test : ℕ → Bool) (bound i : ℕ) → i < bound → test i ≡ true → any_below test bound ≡ true
any-there test zero i lt passes = absurd (omega arith)
any-there test (suc bound) i lt passes =
    elim (cases_eq i bound) [
      | inl last ↦ ap (λ b. any_below test bound || b) (sym (ap test last) ∙ passes) ∙ or_right (any_below test bound)
      | inr before ↦ ap (λ b. b || test bound) (any-there test bound i (omega arith) passes)
    ]

any-found : (test : ℕ → Bool) (bound : ℕ) → any_below test bound ≡ true → (i : ℕ) × (i < bound) × (test i ≡ true)
any-found test zero found = absurd (true≢false (sym found))
any-found test (suc bound) found =
    elim (cases_Bool (test bound)) [
      | inl passes ↦ (bound, omega arith, passes)
      | inr fails ↦
          let its = any-found test bound (sym (or_false (any_below test bound)) ∙ sym (ap (λ b. any_below test bound || b) fails) ∙ found) in
          (its.0, omega (arith, its.1), its.2)
    ]
  where
    or_false : (b : Bool) → (b || false) ≡ b
    or_false true = refl
    or_false false = refl

all_true : (one other : Bool) → one ≡ true → other ≡ true → (one && other) ≡ true
all_true one other first second = rw (first, second) refl

-- what dominates is an object of the image
dominator-inside : (memory : Memory) (weak : Weak) (tree : DominatorTree) (dominators : AreDominators memory weak tree) (one other : ℕ)
    → Dominates (graph_from dominators.start memory weak) one other → one < object_count memory
dominator-inside memory weak tree dominators one other is =
    reached-inside memory weak tree dominators one (Dominates-reached (graph_from dominators.start memory weak) one other is)

-- ---- the outermost objects of a group

-- what an object adds to what the objects with a key retain
abbrev pub part_of : DominatorTree → List ℕ → List Bool → ℕ → ℕ → ℕ
part_of tree keys outermost key object =
    if_so (is_marked outermost object && eqb (slice_index keys object) key) (retained_bytes tree object)

module _ (memory : Memory) (weak : Weak) (tree : DominatorTree) (dominators : AreDominators memory weak tree) (keys : List ℕ)
    (outermost : List Bool) (are : AreOutermost (graph_from dominators.start memory weak) keys outermost) (key : ℕ) where
  abbrev graph : Graph
  graph = graph_from dominators.start memory weak

  abbrev count : ℕ
  count = object_count memory

  abbrev is_one : ℕ → Bool
  is_one object = is_marked outermost object && eqb (slice_index keys object) key

  abbrev dominates : ℕ → ℕ → Bool
  dominates one = is_marked (marks_of memory weak tree dominators one).marks

  -- whether an object is outermost and dominates another
  abbrev is_over : ℕ → ℕ → Bool
  is_over other one = is_one one && dominates one other

  abbrev amount : ℕ → ℕ
  amount i = length (object_at memory i).chunk

  one_key : (one : ℕ) → is_one one ≡ true → slice_index keys one ≡ key
  one_key one passes = eqb-true _ _ (both_true (is_marked outermost one) (eqb (slice_index keys one) key) passes).1

  over_dominates : (one other : ℕ) → is_over other one ≡ true → Dominates graph one other
  over_dominates one other passes =
      (marks_of memory weak tree dominators one).sound other (both_true (is_one one) (dominates one other) passes).1

  -- at most one of them dominates an object
  one_only : (one two other : ℕ) → is_over other one ≡ true → is_over other two ≡ true → one ≡ two
  one_only one two other first second =
      let is_first = (both_true (is_one one) (dominates one other) first).0 in
      let is_second = (both_true (is_one two) (dominates two other) second).0 in
      let same : slice_index keys one ≡ slice_index keys two = one_key one is_first ∙ sym (one_key two is_second) in
      elim (chain graph one two other (over_dominates one other first) (over_dominates two other second)) [
        | inl above ↦ (are.sound two (both_true (is_marked outermost two) (eqb (slice_index keys two) key) is_second).0).alone one above same
        | inr under ↦ sym ((are.sound one (both_true (is_marked outermost one) (eqb (slice_index keys one) key) is_first).0).alone two under (sym same))
      ]

  -- an object with the key that dominates another is one of them, or below one
  record HasOver (other : ℕ) : Type 0 where
    one : ℕ
    passes : is_over other one ≡ true

  climb : (bound one other : ℕ) (path : List ℕ) → length path < bound → Leads graph graph.start path one → slice_index keys one ≡ key
      → Dominates graph one other → HasOver other
  climb zero one other path lt leads has_key is = absurd (omega arith)
  climb (suc bound) one other path lt leads has_key is =
      let reached = Dominates-reached graph one other is in
      elim (cases_Bool (is_marked outermost one)) [
        | inl marked ↦ record {
          one = one;
          passes = all_true (is_one one) (dominates one other)
              (all_true (is_marked outermost one) (eqb (slice_index keys one) key) marked (eq-eqb _ _ has_key))
              ((marks_of memory weak tree dominators one).complete other is);
        }
        | inr not_marked ↦
            let under = are.others one reached not_marked in
            let its = prefix_of graph graph.start path one under.one leads (under.dominates.on_all path leads) in
            let less = its.shorter under.apart in
            climb bound under.one other its.front (omega arith) its.leads (under.has_key ∙ has_key)
            (Dominates-trans graph under.one one other under.dominates is)
      ]

  -- ---- the marks of what they dominate

  abbrev is_under : ℕ → Bool
  is_under other = any_below (is_over other) count

  abbrev marks : List Bool
  marks = map is_under (range_with_len 0 count)

  mark_is : (i : ℕ) → i < count → is_marked marks i ≡ is_under i
  mark_is i lt = get_or-map-range_with_len is_under 0 count i i false lt (omega arith)

  marks-sized : length marks ≡ count
  marks-sized = length-map (range_with_len 0 count) is_under ∙ length-range_with_len 0 count

  one-inside : (one other : ℕ) → Dominates graph one other → one < count
  one-inside one other is = dominator-inside memory weak tree dominators one other is

  dominated : MarksDominatedByOne graph (λ one. slice_index keys one ≡ key) marks
  dominated =
      record {
        sized = marks-sized;
        sound = λ other marked.
            elim (cases_lt other count) [
              | inl low ↦
                  let its = any-found (is_over other) count (sym (mark_is other low) ∙ marked) in
                  (its.0, one_key its.0 (both_true (is_one its.0) (dominates its.0 other) its.2).0, over_dominates its.0 other its.2)
              | inr past ↦ absurd (true≢false (sym marked ∙ get_or_past marks other false (omega (arith, past, marks-sized))))
            ];
        complete = λ one other has_key is.
            (let reached = Dominates-reached graph one other is in
            let its = climb (suc (length reached.path)) one other reached.path (omega arith) reached.leads has_key is in
            let inside = reached-inside memory weak tree dominators other is.reachable in
            mark_is other inside
            ∙ any-there (is_over other) count its.one (one-inside its.one other (over_dominates its.one other its.passes)) its.passes);
      }

  -- ---- the sums

  over-sum : (i : ℕ) → sum_below (λ one. if_so (is_over i one) (amount i)) count ≡ if_so (is_under i) (amount i)
  over-sum i =
      elim (cases_Bool (is_under i)) [
        | inl some ↦
            let its = any-found (is_over i) count some in
            let none = sum_below-none (λ one. 0) count (λ one lt. refl) in
            let here : if_so (is_over i its.0) (amount i) ≡ 0 + amount i = omega (arith, ap (λ b. if_so b (amount i)) its.2) in
            let one = sum_below-more (λ one. 0) (λ one. if_so (is_over i one) (amount i)) count its.0 (amount i) its.1 here
            (λ two lt differs.
            ap (λ b. if_so b (amount i)) (false_from_ne_true (is_over i two) (λ passes. differs (one_only two its.0 i passes its.2)))) in
            let all = ap (λ b. if_so b (amount i)) some in
            omega (arith, none, one, all)
        | inr not_any ↦
            let none = sum_below-none (λ one. if_so (is_over i one) (amount i)) count
            (λ one lt. ap (λ b. if_so b (amount i))
            (false_from_ne_true (is_over i one) (λ passes. true≢false (sym (any-there (is_over i) count one lt passes) ∙ not_any)))) in
            none ∙ sym (ap (λ b. if_so b (amount i)) not_any)
      ]

  part-sum : (one : ℕ) → part_of tree keys outermost key one ≡ 4 * sum_below (λ i. if_so (is_over i one) (amount i)) count
  part-sum one =
      let its = marks_of memory weak tree dominators one in
      elim (cases_Bool (is_one one)) [
        | inl passes ↦
            let whole = ap (λ b. if_so b (retained_bytes tree one)) passes in
            let same = sum_below-same (λ i. if_so (is_over i one) (amount i)) (λ i. if_so (dominates one i) (amount i)) count
            (λ i lt. ap (λ b. if_so (b && dominates one i) (amount i)) passes) in
            let all = sum_below-marked (λ (object : Object). length object.chunk) (record { first = 0; chunk = [] }) its.marks (objects memory) its.sized in
            omega (arith, whole, same, all, its.bytes_are)
        | inr fails ↦
            let whole = ap (λ b. if_so b (retained_bytes tree one)) fails in
            let none = sum_below-none (λ i. if_so (is_over i one) (amount i)) count
            (λ i lt. ap (λ b. if_so (b && dominates one i) (amount i)) fails) in
            omega (arith, whole, none)
      ]

  all-sum : sum_below (part_of tree keys outermost key) count ≡ bytes_in (live memory marks)
  all-sum =
      let parts = sum_below-times (part_of tree keys outermost key) (λ one. sum_below (λ i. if_so (is_over i one) (amount i)) count) count (λ one lt. part-sum one) in
      let swapped = sum_below-swap (λ one i. if_so (is_over i one) (amount i)) count count in
      let each = sum_below-same (λ i. sum_below (λ one. if_so (is_over i one) (amount i)) count) (λ i. if_so (is_marked marks i) (amount i)) count
      (λ i lt. over-sum i ∙ ap (λ b. if_so b (amount i)) (sym (mark_is i lt))) in
      let all = sum_below-marked (λ (object : Object). length object.chunk) (record { first = 0; chunk = [] }) marks (objects memory) marks-sized in
      omega (arith, parts, swapped, each, all)

  pub AreDominatedBytes-sum : (bytes : ℕ) → bytes ≡ sum_below (part_of tree keys outermost key) count
      → AreDominatedBytes memory weak (λ one. slice_index keys one ≡ key) bytes
  AreDominatedBytes-sum bytes same =
      record {
        start = dominators.start;
        is_special = dominators.is_special;
        marks = marks;
        dominated = dominated;
        bytes_are = same ∙ all-sum;
      }

-- ---- sums while they are made

-- the objects below a bound are added up by their keys
pub record IsSummed (tree : DominatorTree) (keys : List ℕ) (outermost : List Bool) (bound object : ℕ) (sums : List ℕ) : Type 0 where
  pub sized : length sums ≡ bound
  pub each : (key : ℕ) → key < bound → slice_index sums key ≡ sum_below (part_of tree keys outermost key) object
  pub small : (key : ℕ) → slice_index sums key ≤ object * 2 ^ 32

module _ (tree : DominatorTree) (keys : List ℕ) (outermost : List Bool) (bound : ℕ) where
  zeros : (n key : ℕ) → slice_index (replicate n 0) key ≡ 0
  zeros n key =
      elim (cases_lt key n) [
        | inl low ↦ get_or-replicate n key 0 0 low
        | inr past ↦ get_or_past (replicate n 0) key 0 (omega (arith, past, length-replicate {A = ℕ} n 0))
      ]

  pub IsSummed-none : IsSummed tree keys outermost bound 0 (replicate bound 0)
  IsSummed-none =
      record {
        sized = length-replicate {A = ℕ} bound 0;
        each = λ key lt. zeros bound key;
        small = λ key. (let none = zeros bound key in omega (arith, none));
      }

  module _ (object : ℕ) (sums : List ℕ) (summed : IsSummed tree keys outermost bound object sums) where
    abbrev its_key : ℕ
    its_key = slice_index keys object

    abbrev more : ℕ
    more = slice_index sums its_key + retained_bytes tree object

    part-not_outer : (key : ℕ) → is_marked outermost object ≡ false → part_of tree keys outermost key object ≡ 0
    part-not_outer key fails = ap (λ b. if_so (b && eqb its_key key) (retained_bytes tree object)) fails

    pub IsSummed-skipped : is_marked outermost object ≡ false → IsSummed tree keys outermost bound (object + 1) sums
    IsSummed-skipped fails =
        record {
          sized = summed.sized;
          each = λ key lt. rw add-one (let none = part-not_outer key fails in omega (arith, summed.each key lt, none));
          small = λ key. (let small = summed.small key in omega (arith, small));
        }

    pub IsSummed-added : is_marked outermost object ≡ true → its_key < bound → retained_bytes tree object < 2 ^ 32
        → IsSummed tree keys outermost bound (object + 1) (set sums its_key (slice_index sums its_key + retained_bytes tree object))
    IsSummed-added passes low small_one =
        let inside : its_key < length sums = omega (arith, low, summed.sized) in
        record {
          sized = length-set sums its_key more ∙ summed.sized;
          each = λ key lt. rw add-one (elim (cases_eq key its_key) [
            | inl same ↦
                let here = ap (slice_index (set sums its_key more)) same ∙ get_or-set_same sums its_key more 0 inside in
                let before = ap (slice_index sums) same in
                let whole : part_of tree keys outermost key object ≡ retained_bytes tree object =
                ap (λ b. if_so (b && eqb its_key key) (retained_bytes tree object)) passes
                ∙ ap (λ b. if_so b (retained_bytes tree object)) (eq-eqb its_key key (sym same))
                in
                omega (arith, here, before, whole, summed.each key lt)
            | inr apart ↦
                let here = get_or-set_other sums its_key key more 0 apart in
                let none : part_of tree keys outermost key object ≡ 0 =
                ap (λ b. if_so (b && eqb its_key key) (retained_bytes tree object)) passes
                ∙ ap (λ b. if_so b (retained_bytes tree object)) (ne_eqb its_key key (λ same. apart (sym same)))
                in
                omega (arith, here, none, summed.each key lt)
          ]);
          small = λ key. elim (cases_eq key its_key) [
            | inl same ↦
                let here = ap (slice_index (set sums its_key more)) same ∙ get_or-set_same sums its_key more 0 inside in
                omega (arith, here, summed.small its_key, small_one)
            | inr apart ↦
                let here = get_or-set_other sums its_key key more 0 apart in omega (arith, here, summed.small key)
          ];
        }

-- ---- as the function states it

module _ (grouped : GroupedTree) (tree : IsGroupedTree grouped) (outermost : List Bool) (are : AreOutermostIn grouped outermost) (sums : List ℕ)
    (summed : IsSummed grouped.dominators.now grouped.keys.now outermost grouped.bound (object_count grouped.graph.heap.now) sums) where
  pub AreRetainedByKeys-all : AreRetainedByKeys grouped sums
  AreRetainedByKeys-all =
      let memory = grouped.graph.heap.now in
      let same : are.start ≡ tree.dominators.start = same_Some _ _ (sym are.is_special ∙ tree.dominators.is_special) in
      record {
        sized = summed.sized;
        each = λ key lt.
            AreDominatedBytes-sum memory grouped.graph.weak grouped.dominators.now tree.dominators grouped.keys.now outermost
            (subst (λ (start : ℕ). AreOutermost (graph_from start memory grouped.graph.weak) grouped.keys.now outermost) same are.are) key
            (slice_index sums key) (summed.each key lt);
      }

-- ---- by group

-- of keys that are those of groups, an object's is that of a group exactly if it is in the group
module _ (memory : Memory) (weak : Weak) (keys : List ℕ) (are : AreGroupKeys memory weak keys) (group : Group)
    (inside : IsInside (object_count memory) group) where
  abbrev group_at : ℕ → Group
  group_at one = group_of memory weak (chunk_words memory one)

  from_key : (one : ℕ) → one < object_count memory → slice_index keys one ≡ key_of (object_count memory) group → group_at one ≡ group
  from_key one lt same =
      sym (group_with-key_of (object_count memory) (group_at one) (group_of-inside memory weak (chunk_words memory one)))
      ∙ ap (group_with (object_count memory)) (sym (are.each one lt) ∙ same)
      ∙ group_with-key_of (object_count memory) group inside

  to_key : (one : ℕ) → one < object_count memory → group_at one ≡ group → slice_index keys one ≡ key_of (object_count memory) group
  to_key one lt same = are.each one lt ∙ ap (key_of (object_count memory)) same

  pub AreRetainedByGroup-from_key : (tree : DominatorTree) → AreDominators memory weak tree → (bytes : ℕ)
      → AreDominatedBytes memory weak (λ one. slice_index keys one ≡ key_of (object_count memory) group) bytes
      → AreRetainedByGroup memory weak group bytes
  AreRetainedByGroup-from_key tree dominators bytes is =
      record {
        start = is.start;
        is_special = is.is_special;
        marks = is.marks;
        dominated = record {
          sized = is.dominated.sized;
          sound = λ other marked.
              (let its = is.dominated.sound other marked in (its.0, from_key its.0 (one-inside its.0 other its.2) its.1, its.2));
          complete = λ one other of_group dominates.
              is.dominated.complete one other (to_key one (one-inside one other dominates) of_group) dominates;
        };
        bytes_are = is.bytes_are;
      }
    where
      same_start : is.start ≡ dominators.start
      same_start = same_Some _ _ (sym is.is_special ∙ dominators.is_special)

      one-inside : (one other : ℕ) → Dominates (graph_from is.start memory weak) one other → one < object_count memory
      one-inside one other its =
          dominator-inside memory weak tree dominators one other
          (subst (λ (start : ℕ). Dominates (graph_from start memory weak) one other) same_start its)

-- from what the objects with each key retain
pub AreRetainedByGroups-from_keys : (memory : Memory) (weak : Weak) (keys : List ℕ) → AreGroupKeys memory weak keys → (tree : DominatorTree)
    → AreDominators memory weak tree → (sums : List ℕ) → length sums ≡ key_count memory
    → ((key : ℕ) → key < key_count memory → AreDominatedBytes memory weak (λ one. slice_index keys one ≡ key) (slice_index sums key))
    → AreRetainedByGroups memory weak sums
AreRetainedByGroups-from_keys memory weak keys are tree dominators sums sized each =
    record {
      sized = sized;
      each = λ group inside.
          AreRetainedByGroup-from_key memory weak keys are group inside tree dominators _
          (each (key_of (object_count memory) group) (key_of-lt (object_count memory) group inside));
    }

-- ---- rows

module _ (memory : Memory) (weak : Weak) (sums : List ℕ) (are : AreRetainedByGroups memory weak sums) where
  abbrev row_of : GroupTotal → RetainedTotal
  row_of = retained_total (object_count memory) sums

  same_totals : (totals : List GroupTotal) → map (λ row. row.total) (map row_of totals) ≡ totals
  same_totals [] = refl
  same_totals (total ∷ totals) = ap (λ (list : List GroupTotal). total ∷ list) (same_totals totals)

  pub AreRetainedTotals-rows : (totals : List GroupTotal) → All (λ total. IsInside (object_count memory) total.group) totals
      → AreRetainedTotals memory weak totals (map row_of totals)
  AreRetainedTotals-rows totals inside =
      record {
        are = same_totals totals;
        each = All-map (λ (row : RetainedTotal). AreRetainedByGroup memory weak row.total.group row.retained) row_of totals
            (λ k d lt. are.each (get_or totals k d).group (inside k d lt));
      }

  pub rows-inside : (totals : List GroupTotal) → All (λ total. IsInside (object_count memory) total.group) totals
      → All (λ row. IsInside (object_count memory) row.total.group) (map row_of totals)
  rows-inside totals inside =
      All-map (λ (row : RetainedTotal). IsInside (object_count memory) row.total.group) row_of totals (λ k d lt. inside k d lt)

-- ---- bounds

-- of marked objects that others are among, the bytes are no more than those of the others
live-le : (memory : Memory) (marks others : List Bool) → length marks ≡ object_count memory → length others ≡ object_count memory
    → ((i : ℕ) → is_marked marks i ≡ true → is_marked others i ≡ true) → bytes_in (live memory marks) ≤ bytes_in (live memory others)
live-le memory marks others sized others_sized among =
    let size : Object → ℕ = λ object. length object.chunk in
    let none : Object = record { first = 0; chunk = [] } in
    let amount : ℕ → ℕ = λ i. length (object_at memory i).chunk in
    let part = sum_below-marked size none marks (objects memory) sized in
    let whole = sum_below-marked size none others (objects memory) others_sized in
    let less = sum_below-le (λ i. if_so (is_marked marks i) (amount i)) (λ i. if_so (is_marked others i) (amount i)) (object_count memory) (λ i lt. each amount i) in
    omega (arith, part, whole, less)
  where
    each : (amount : ℕ → ℕ) (i : ℕ) → if_so (is_marked marks i) (amount i) ≤ if_so (is_marked others i) (amount i)
    each amount i =
        elim (cases_Bool (is_marked marks i)) [
          | inl passes ↦
              let here = ap (λ b. if_so b (amount i)) passes in
              let there = ap (λ b. if_so b (amount i)) (among i passes) in
              omega (arith, here, there)
          | inr fails ↦ let here = ap (λ b. if_so b (amount i)) fails in omega (arith, here)
        ]

pub retained-le : (memory : Memory) (weak : Weak) (group : Group) (bytes start one : ℕ) (retained : Retained)
    → AreRetainedByGroup memory weak group bytes → find memory memory.special ≡ Some start
    → group_of memory weak (chunk_words memory one) ≡ group → IsRetained memory (graph_from start memory weak) one retained
    → retained.bytes ≤ bytes
retained-le memory weak group bytes start one retained are is_special of_group is =
    let same : start ≡ are.start = same_Some _ _ (sym is_special ∙ are.is_special) in
    let less = live-le memory is.marks are.marks is.dominated.sized are.dominated.sized
    (λ other marked.
    are.dominated.complete one other of_group
    (subst (λ (start : ℕ). Dominates (graph_from start memory weak) one other) same (is.dominated.sound other marked))) in
    omega (arith, less, is.bytes, are.bytes_are)

pub together-le : (memory : Memory) (weak : Weak) (group : Group) (bytes : ℕ) (marks : List Bool)
    → AreRetainedByGroup memory weak group bytes → IsReachability memory weak marks → bytes ≤ bytes_in (live memory marks)
together-le memory weak group bytes marks are reach =
    let same : are.start ≡ reach.start = same_Some _ _ (sym are.is_special ∙ reach.is_special) in
    let less = live-le memory are.marks marks are.dominated.sized reach.reached.sized
    (λ other marked.
    reach.reached.complete other
    (subst (λ (start : ℕ). Dominates (graph_from start memory weak) (are.dominated.sound other marked).0 other) same
    (are.dominated.sound other marked).2).reachable) in
    omega (arith, less, are.bytes_are)
