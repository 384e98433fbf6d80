-- The rule of the mark table when it is made and when it is closed.
-- Serves `table::MarkTable::close` and `table::MarkTable::new`.
use Rattle.std.proofs.Common.{◌≡◌, ℕ, zero, suc, ◌+◌, ◌-◌, ◌^◌, ◌<◌, ◌≤◌, if◌then◌else◌, cond, ltb, List, [], ◌∷◌, ◌++◌}
use Rattle.std.proofs.Common.{length, map, take, set, get_or, Some}
use Rattle.std.proofs.Common.{refl, sym, ap, subst, ◌∙◌, arith, inl, inr}
use mathlib.Core.Option.{some}
use lib.ListN.{get_elem?}
use Rattle.std.specs.Prelude.{replicate}
use Rattle.std.specs.List.{concat, sum_by}
use Rattle.std.proofs.lemmas.Bool.{lt-ltb, cases_eq}
use Rattle.std.proofs.lemmas.List.{map-set, get_or-set_same, get_or-set_other, length-map, length-set, length-replicate}
use Rattle.std.proofs.lemmas.List.{replicate-append-replicate, set-append_left, set-append_right}
use Rattle.std.proofs.Math.Seq.{take-append_seam}
use Rattle.std.proofs.lemmas.List.Sums.{sum_by-set, sum_by-cons}
use Rattle.atomic_table.specs.Table.{State}
use Rattle.atomic_table.specs.Table.{opening as opening_of}
use Rattle.sqz_image.specs.Objects.{objects, object_count, chunk_words, find}
use Rattle.sqz_image.proofs.ObjectLemmas.{find_in-lt}
use Rattle.sqz_trace.specs.declared.shades.Shade.{Shade}
use Rattle.sqz_trace.specs.declared.shades.Shade.TheVariants.{White, Grey, Black}
use Rattle.sqz_trace.specs.declared.weak.Weak.{Weak}
use Rattle.sqz_trace.specs.Graph.{is_marked}
use Rattle.sqz_trace.specs.Shades.{shade_at, has_mark, marks_of}
use Rattle.sqz_trace.proofs.ShadeLemmas.{white-black, grey-black, is_marked-shade}
use Rattle.sqz_regions.specs.Regions.{Regioning, region_at, region_count}
use Rattle.sqz_regions.specs.Bases.{AreSums}
use Rattle.sqz_regions.proofs.ListedLemmas.{words_at, live_words_in-listed, sum_by-once-le, upto-words-le}
use Rattle.sqz_marks.proofs.RunLemmas.{none_at}
use Rattle.sqz_marks.specs.declared.view.View.{View}
use Rattle.sqz_marks.specs.Core.{Marking, times, spent, pass_at, first_view, grown}
use Rattle.sqz_marks.specs.Lawful.{KnowsTruth, wins, words_listed}
use Rattle.sqz_marks.specs.Table.{number_of, shade_of, HasFewWords, HasCountedAll, IsKept, marking_in, start_of}
use Rattle.sqz_marks.specs.Table.{shade_known, AreClosed}
use Rattle.sqz_marks.proofs.RunLemmas.{IsLawful-opening}
use Rattle.sqz_marks.proofs.StepLemmas.{inside_at, item_at, shade_of-number, sized, sum_is}
use Rattle.sqz_marks.proofs.CountLemmas.{total_counted-few}
use Rattle.sqz_marks.proofs.WonLemmas.{wins-mark}

-- the data words of a heap are few
pub HasFewWords-heap : (heap : Regioning) (weak : Weak) (workers : ℕ) → length (concat heap.memory.chunks) < 2 ^ 30
    → HasFewWords (marking_in heap weak workers)
HasFewWords-heap heap weak workers few region list once inside =
    let le = sum_by-once-le (words_at heap.cut heap.memory region) list (object_count heap.memory) once inside in
    omega (arith, le, upto-words-le heap.cut heap.memory region, few)

-- it holds where the word of the special objects array is 1, that of its region its length, and each other 0
pub IsKept-opening : (heap : Regioning) (weak : Weak) (workers : ℕ) (words : List ℕ)
    → find heap.memory heap.memory.special ≡ Some (start_of heap.memory) → 1 ≤ workers → workers ≤ 64
    → HasFewWords (marking_in heap weak workers)
    → words ≡ set (set (replicate (object_count heap.memory + region_count heap.cut heap.memory) 0) (start_of heap.memory) 1)
    (object_count heap.memory + region_at heap.cut heap.memory (start_of heap.memory))
    (length (chunk_words heap.memory (start_of heap.memory)))
    → {S : Type 0} → IsKept (marking_in heap weak workers) (opening_of {S = S} words [] (first_view workers (start_of heap.memory)))
IsKept-opening heap weak workers words special positive few few_words are =
    record {
      shades = shades;
      sums = sums;
      words = are ∙ ap (λ ws. set (set ws start 1) (count + region) long) zeros ∙ ap (λ ws. set ws (count + region) long) first ∙ second;
      lawful = IsLawful-opening (marking_in heap weak workers) inside positive;
      few = few;
      few_words = few_words;
    } where
      start : ℕ
      start = start_of heap.memory

      count : ℕ
      count = object_count heap.memory

      regions : ℕ
      regions = region_count heap.cut heap.memory

      region : ℕ
      region = region_at heap.cut heap.memory start

      long : ℕ
      long = length (chunk_words heap.memory start)

      inside : start < count
      inside = find_in-lt heap.memory.base (objects heap.memory) heap.memory.special start special

      shades : List Shade
      shades = set (replicate count White) start Grey

      sums : List ℕ
      sums = grown (replicate regions 0) region long

      whites : (n : ℕ) → map number_of (replicate n White) ≡ replicate n 0
      whites zero = refl
      whites (suc n) = ap (λ ws. 0 ∷ ws) (whites n)

      sized : length (map number_of shades) ≡ count
      sized = length-map shades number_of ∙ length-set (replicate count White) start Grey ∙ length-replicate count White

      zeros : replicate (count + regions) 0 ≡ map number_of (replicate count White) ++ replicate regions 0
      zeros = sym (replicate-append-replicate count regions 0) ∙ ap (λ ws. ws ++ replicate regions 0) (sym (whites count))

      first : set (map number_of (replicate count White) ++ replicate regions 0) start 1 ≡ map number_of shades ++ replicate regions 0
      first =
          set-append_left (map number_of (replicate count White)) (replicate regions 0) start 1
          (omega (arith, inside, length-map (replicate count White) number_of, length-replicate count White))
          ∙ ap (λ ws. ws ++ replicate regions 0) (sym (map-set number_of (replicate count White) start Grey))

      second : set (map number_of shades ++ replicate regions 0) (count + region) long ≡ map number_of shades ++ sums
      second =
          let place : count + region - count ≡ region = omega arith in
          let more : long ≡ get_or (replicate regions 0) region 0 + long = omega (arith, none_at regions region) in
          set-append_right (map number_of shades) (replicate regions 0) count (count + region) long sized (omega arith)
          ∙ ap (λ r. map number_of shades ++ set (replicate regions 0) r long) place
          ∙ ap (λ n. map number_of shades ++ set (replicate regions 0) region n) more

-- where no pass has weight, no pass knows anything
none_known : (passes : List View) → ((pass : ℕ) → (pass_at passes pass).weight ≡ 0 → pass_at passes pass ≡ spent)
    → sum_by (λ view. view.weight) passes ≡ 0 → (known : View → ℕ) → known spent ≡ 0 → sum_by known passes ≡ 0
none_known [] idle weightless known nothing = refl
none_known (view ∷ passes) idle weightless known nothing =
    let weights = sum_by-cons (λ (v : View). v.weight) view passes in
    let here : known view ≡ 0 = ap known (idle 0 (omega (arith, weights, weightless))) ∙ nothing in
    let rest = none_known passes (λ pass. idle (suc pass)) (omega (arith, weights, weightless)) known nothing in
    let knowns = sum_by-cons known view passes in
    omega (arith, here, rest, knowns)

module _ (marking : Marking) {S : Type 0} (table : State S View) (kept : IsKept marking {S = S} table) (id : ℕ) (view : View)
    (at : get_elem? table.views id ≡ some view) (whole : view.weight ≡ marking.workers) where
  passes : List View
  passes = table.views

  inside : id < length table.views
  inside = inside_at table.views id view at

  is_view : pass_at table.views id ≡ view
  is_view = item_at table.views id view spent at

  -- the pass that has all weight knows all
  alone : (known : View → ℕ) → known spent ≡ 0 → sum_by known table.views ≡ known view
  alone known nothing =
      let weights = sum_by-set (λ (v : View). v.weight) table.views id spent spent inside in
      let knowns = sum_by-set known table.views id spent spent inside in
      let weight : (pass_at table.views id).weight ≡ view.weight = ap (λ (v : View). v.weight) is_view in
      let here : known (pass_at table.views id) ≡ known view = ap known is_view in
      let weightless : sum_by (λ (v : View). v.weight) (set table.views id spent) ≡ 0 =
      omega (arith, weights, weight, whole, kept.lawful.weights) in
      let rest = none_known (set table.views id spent) others weightless known nothing in
      omega (arith, knowns, here, rest, nothing)
    where
      others : (pass : ℕ) → (pass_at (set table.views id spent) pass).weight ≡ 0 → pass_at (set table.views id spent) pass ≡ spent
      others pass weightless =
          elim (cases_eq pass id) [
            | inl same ↦ ap (pass_at (set table.views id spent)) same ∙ get_or-set_same table.views id spent spent inside
            | inr differs ↦
                (let other = get_or-set_other table.views id pass spent spent differs in
                other ∙ (kept.lawful.truth pass).idle (sym (ap (λ (v : View). v.weight) other) ∙ weightless))
          ]

  -- it won each marked object, once
  won_once : (object : ℕ) → times object view.won ≡ wins (shade_at kept.shades object)
  won_once object = sym (alone (λ v. times object v.won) refl) ∙ kept.lawful.won object

  -- and it knows each shade
  shade_at-known : (object : ℕ) → shade_at kept.shades object ≡ shade_known view object
  shade_at-known object =
      by_shade (shade_at kept.shades object) (times object view.blackened) (times object view.won)
      (λ black. subst (λ n. 0 < n) (alone (λ v. times object v.blackened) refl) (kept.lawful.black object black))
      (λ known. (subst (KnowsTruth kept.shades) is_view (kept.lawful.truth id)).blackened object known)
      (won_once object)
    where
      by_shade : (shade : Shade) (black won : ℕ) → (shade ≡ Black → 0 < black) → (0 < black → shade ≡ Black) → won ≡ wins shade
          → shade ≡ (if ltb 0 black then Black else (if ltb 0 won then Grey else White))
      by_shade Black black won is known once =
          sym (ap (λ b. if b then Black else (if ltb 0 won then Grey else White)) (lt-ltb 0 black (is refl)))
      by_shade Grey zero won is known once = sym (ap (λ w. if ltb 0 w then Grey else White) once)
      by_shade White zero won is known once = sym (ap (λ w. if ltb 0 w then Grey else White) once)
      by_shade Grey (suc black) won is known once = absurd (grey-black (known (omega arith)))
      by_shade White (suc black) won is known once = absurd (white-black (known (omega arith)))

  -- the regions' numbers are what it counted
  sums_counted : (region : ℕ) → region < marking.regions → get_or kept.sums region 0 ≡ words_listed marking region view.counted
  sums_counted region lt = kept.lawful.sums.each region lt ∙ alone (λ v. words_listed marking region v.counted) refl

  -- where it counted all that it won, it counted each marked object once
  counted_once : HasCountedAll view → (object : ℕ) → times object view.counted ≡ cond (is_marked (marks_of kept.shades) object) 1 0
  counted_once all object =
      by_shade (shade_at kept.shades object) (times object view.counted) (times object view.won) (won_once object)
      ((subst (KnowsTruth kept.shades) is_view (kept.lawful.truth id)).counted object) (all object)
      ∙ wins-mark (shade_at kept.shades object) ∙ ap (λ b. cond b 1 0) (sym (is_marked-shade kept.shades object))
    where
      by_shade : (shade : Shade) (counted won : ℕ) → won ≡ wins shade → counted ≤ won → (0 < won → 0 < counted) → counted ≡ wins shade
      by_shade White counted won once le always = omega (arith, once, le)
      by_shade Grey counted won once le always = let one = always (omega (arith, once)) in omega (arith, once, le, one)
      by_shade Black counted won once le always = let one = always (omega (arith, once)) in omega (arith, once, le, one)

-- words that say shades
pub shade_of-numbers : (shades : List Shade) → map shade_of (map number_of shades) ≡ shades
shade_of-numbers [] = refl
shade_of-numbers (shade ∷ shades) = λ k. shade_of-number shade k ∷ shade_of-numbers shades k

module _ (heap : Regioning) (weak : Weak) (workers : ℕ) {S : Type 0} (table : State S View)
    (kept : IsKept (marking_in heap weak workers) {S = S} table) where
  module _ (id : ℕ) (view : View) (at : get_elem? table.views id ≡ some view) (whole : view.weight ≡ workers) where
    -- the shades that the words say when the table is closed
    pub AreClosed-kept : find heap.memory heap.memory.special ≡ Some (start_of heap.memory)
        → AreClosed heap.memory weak view kept.shades
    AreClosed-kept special =
        record {
          known = shade_at-known (marking_in heap weak workers) table kept id view at whole;
          once = won_once (marking_in heap weak workers) table kept id view at whole;
          seen = (subst (KnowsTruth kept.shades) (item_at table.views id view spent at) (kept.lawful.truth id)).seen;
          lawful = record { start = start_of heap.memory; is_special = special; lawful = kept.lawful.shades };
        }

    -- and the sums of the regions, where all that was won is counted
    pub AreSums-kept : HasCountedAll view → AreSums heap (marks_of kept.shades) kept.sums
    AreSums-kept all =
        record {
          sized = kept.lawful.sums.sized;
          each = λ region lt.
              sums_counted (marking_in heap weak workers) table kept id view at whole region lt
              ∙ live_words_in-listed heap.cut heap.memory (marks_of kept.shades) view.counted region
              (length-map kept.shades has_mark ∙ kept.lawful.shades.sized)
              (counted_once (marking_in heap weak workers) table kept id view at whole all);
        }

  -- the words of a closed table encode the shades, and after these the regions' sums
  module _ (words : List ℕ) (are : table.words ≡ words) (count : ℕ) (count_is : count ≡ object_count heap.memory) where
    pub shades_read : map shade_of (take count words) ≡ kept.shades
    shades_read =
        ap (λ ws. map shade_of (take count ws)) (sym are ∙ kept.words)
        ∙ ap (λ n. map shade_of (take n (map number_of kept.shades ++ kept.sums)))
        (count_is ∙ sym (sized (marking_in heap weak workers) table kept))
        ∙ ap (map shade_of) (take-append_seam (map number_of kept.shades) kept.sums)
        ∙ shade_of-numbers kept.shades

    pub sum_read : (region : ℕ) → get_or words (count + region) 0 ≡ get_or kept.sums region 0
    sum_read region =
        ap (λ ws. get_or ws (count + region) 0) (sym are) ∙ ap (λ n. get_or table.words (n + region) 0) count_is
        ∙ sum_is (marking_in heap weak workers) table kept region

    pub sum_few : (region : ℕ) → region < region_count heap.cut heap.memory → get_or words (count + region) 0 < 2 ^ 30
    sum_few region inside =
        subst (λ n. n < 2 ^ 30) (sym (sum_read region ∙ kept.lawful.sums.each region inside))
        (total_counted-few (marking_in heap weak workers) _ kept.lawful kept.few_words region)
