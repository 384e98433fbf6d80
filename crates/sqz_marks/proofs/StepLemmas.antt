-- Each step on the mark table keeps its rule, and what it shows its pass is true.
-- Serves `closed::read_shades`, `closed::read_sums`, `CallLemmas` and `KeptLemmas`.
use Rattle.std.proofs.Common.{◌≡◌, ◌≢◌, ℕ, zero, suc, ◌+◌, ◌-◌, ◌%◌, ◌^◌, ◌<◌, ◌≤◌, max, true, List, [], ◌∷◌, ◌++◌}
use Rattle.std.proofs.Common.{length, map, set, get_or, refl, sym, ap, subst, ◌∙◌, arith}
use mathlib.Core.Option.{some, none, some-injective, some-ne-none}
use lib.ListN.{get_elem?}
use Rattle.std.specs.Prelude.{slice_index}
use Rattle.std.proofs.lemmas.List.{map-set, get_or-map, get_or-set_other, get_or_append_left, get_or-append-add}
use Rattle.std.proofs.lemmas.List.{get_or-set_same, length-map, length-set, set-append_left, set-append_right}
use Rattle.std.proofs.lemmas.List.{set-get_or}
use Rattle.std.proofs.Math.Nat.{mod-eq_of_lt}
use Rattle.std.proofs.lemmas.List.Sums.{get_or-le-sum_by}
use Rattle.atomic_table.specs.Table.{State, Me, step, keeps, Allows, Splits, Joins}
use Rattle.sqz_trace.specs.declared.shades.Shade.{Shade}
use Rattle.sqz_trace.specs.declared.shades.Shade.TheVariants.{White, Grey, Black}
use Rattle.sqz_trace.specs.Shades.{shade_at, has_mark}
use Rattle.sqz_trace.proofs.ShadeLemmas.{is_marked-shade}
use Rattle.sqz_marks.specs.declared.view.View.{View}
use Rattle.sqz_marks.specs.Core.{State as MarkingState}
use Rattle.sqz_marks.specs.Core.{Marking, times, HasWon, HasSeen, HasBlackened, spent, pass_at, looked, claimed, greyed}
use Rattle.sqz_marks.specs.Core.{grown, counted, blackened}
use Rattle.sqz_marks.specs.Core.{kept_of, part_of, joined}
use Rattle.sqz_marks.specs.Lawful.{KnowsTruth, IsLawful}
use Rattle.sqz_marks.specs.Table.{number_of, shade_of, IsNewTo, IsKept, Looked, Claimed, Counted, Blackened, Weighed}
use Rattle.sqz_marks.proofs.TimesLemmas.{zero-if_never}
use Rattle.sqz_marks.proofs.CountLemmas.{total_counted-few}
use Rattle.sqz_marks.proofs.EventLemmas.{IsLawful-look, IsLawful-claim, IsLawful-count, IsLawful-blacken}
use Rattle.sqz_marks.proofs.EventLemmas.{IsLawful-split, IsLawful-join}

-- a state of marking of these parts
abbrev state_of : List Shade → List ℕ → List View → MarkingState
state_of shades sums passes = record { shades = shades; sums = sums; passes = passes }

-- an item that stands in a list
pub inside_at : {X : Type 0} (xs : List X) (i : ℕ) (x : X) → get_elem? xs i ≡ some x → i < length xs
inside_at [] i x e = absurd (some-ne-none x (sym e))
inside_at (y ∷ xs) zero x e = omega arith
inside_at (y ∷ xs) (suc i) x e = omega (arith, inside_at xs i x e)

pub item_at : {X : Type 0} (xs : List X) (i : ℕ) (x d : X) → get_elem? xs i ≡ some x → get_or xs i d ≡ x
item_at [] i x d e = absurd (some-ne-none x (sym e))
item_at (y ∷ xs) zero x d e = some-injective y x e
item_at (y ∷ xs) (suc i) x d e = item_at xs i x d e

-- the number of a shade says it
pub shade_of-number : (shade : Shade) → shade_of (number_of shade) ≡ shade
shade_of-number White = refl
shade_of-number Grey = refl
shade_of-number Black = refl

number_of-le : (shade : Shade) → number_of shade ≤ 2
number_of-le White = omega arith
number_of-le Grey = omega arith
number_of-le Black = omega arith

number_of-marked : (shade : Shade) → has_mark shade ≡ true → 1 ≤ number_of shade
number_of-marked White e = absurd cc
number_of-marked Grey e = omega arith
number_of-marked Black e = omega arith

number_of-greyed : (shade : Shade) → max (number_of shade) 1 ≡ number_of (greyed shade)
number_of-greyed White = refl
number_of-greyed Grey = refl
number_of-greyed Black = refl

number_of-black : (shade : Shade) → max (number_of shade) 2 ≡ number_of Black
number_of-black White = refl
number_of-black Grey = refl
number_of-black Black = refl

module _ (marking : Marking) {S : Type 0} (table : State S View) (kept : IsKept marking {S = S} table) where
  abbrev count : ℕ
  count = marking.graph.count

  -- what the words say, and what the passes know
  abbrev state : MarkingState
  state = state_of kept.shades kept.sums table.views

  -- a table keeps the rule whose words and passes are a lawful state
  IsKept-with : (shades : List Shade) (sums : List ℕ) (after : State S View) → after.words ≡ map number_of shades ++ sums
      → IsLawful marking (state_of shades sums after.views) → IsKept marking {S = S} after
  IsKept-with shades sums after words lawful =
      record {
        shades = shades;
        sums = sums;
        words = words;
        lawful = lawful;
        few = kept.few;
        few_words = kept.few_words;
      }

  pub sized : length (map number_of kept.shades) ≡ marking.graph.count
  sized = length-map kept.shades number_of ∙ kept.lawful.shades.sized

  -- the word of an object
  word_is : (object : ℕ) → object < count → slice_index table.words object ≡ number_of (shade_at kept.shades object)
  word_is object inside =
      ap (λ (words : List ℕ). get_or words object 0) kept.words
      ∙ get_or_append_left (map number_of kept.shades) kept.sums 0 object (subst (λ n. object < n) (sym sized) inside)
      ∙ get_or-map number_of kept.shades object White 0 (subst (λ n. object < n) (sym kept.lawful.shades.sized) inside)

  shade_is : (object : ℕ) → object < count → shade_of (slice_index table.words object) ≡ shade_at kept.shades object
  shade_is object inside = ap shade_of (word_is object inside) ∙ shade_of-number (shade_at kept.shades object)

  words_set : (object : ℕ) (word : ℕ) (shade : Shade) → object < count → word ≡ number_of shade
      → set table.words object word ≡ map number_of (set kept.shades object shade) ++ kept.sums
  words_set object word shade inside says =
      let within : object < length (map number_of kept.shades) = subst (λ n. object < n) (sym sized) inside in
      ap (λ (words : List ℕ). set words object word) kept.words
      ∙ set-append_left (map number_of kept.shades) kept.sums object word within
      ∙ ap (λ w. set (map number_of kept.shades) object w ++ kept.sums) says
      ∙ ap (λ words. words ++ kept.sums) (sym (map-set number_of kept.shades object shade))

  -- the number of a region
  pub sum_is : (region : ℕ) → slice_index table.words (marking.graph.count + region) ≡ get_or kept.sums region 0
  sum_is region =
      ap (λ (words : List ℕ). get_or words (count + region) 0) kept.words
      ∙ ap (λ n. get_or (map number_of kept.shades ++ kept.sums) (n + region) 0) (sym sized)
      ∙ get_or-append-add (map number_of kept.shades) kept.sums region 0

  sums_set : (region word : ℕ)
      → set table.words (count + region) word ≡ map number_of kept.shades ++ set kept.sums region word
  sums_set region word =
      let place : count + region - count ≡ region = omega arith in
      ap (λ (words : List ℕ). set words (count + region) word) kept.words
      ∙ set-append_right (map number_of kept.shades) kept.sums count (count + region) word sized (omega arith)
      ∙ ap (λ r. map number_of kept.shades ++ set kept.sums r word) place

  module _ (id : ℕ) (view : View) (at : get_elem? table.views id ≡ some view) where
    pass_inside : id < length table.views
    pass_inside = inside_at table.views id view at

    is_view : pass_at table.views id ≡ view
    is_view = item_at table.views id view spent at

    -- what holds of the view holds of the pass, and what is lawful with the pass is so with the view
    of_pass : (P : View → Type 0) → P view → P (pass_at table.views id)
    of_pass P = subst P (sym is_view)

    lawful_view : (shades : List Shade) (sums : List ℕ) (passes : View → List View)
        → IsLawful marking (state_of shades sums (passes (pass_at table.views id)))
        → IsLawful marking (state_of shades sums (passes view))
    lawful_view shades sums passes = subst (λ (v : View). IsLawful marking (state_of shades sums (passes v))) is_view

    its : KnowsTruth kept.shades view
    its = subst (KnowsTruth kept.shades) is_view (kept.lawful.truth id)

    -- what the pass has seen has a word that is not 0, and what it knows to be black has 2
    unseen_word : (object : ℕ) → object < count → HasSeen view object → 1 ≤ slice_index table.words object
    unseen_word object inside seen =
        subst (λ n. 1 ≤ n) (sym (word_is object inside))
        (number_of-marked (shade_at kept.shades object) (sym (is_marked-shade kept.shades object) ∙ its.seen object seen))

    black_word : (object : ℕ) → object < count → HasBlackened view object → slice_index table.words object ≡ 2
    black_word object inside known = word_is object inside ∙ ap number_of (its.blackened object known)

    -- where the word is 0, the pass has neither seen the object nor counted it
    new_word : (object : ℕ) → object < count → slice_index table.words object ≡ 0 → IsNewTo view object
    new_word object inside white = (unseen, omega (arith, its.counted object, unwon))
      where
        unseen : times object view.seen ≡ 0
        unseen =
            zero-if_never (times object view.seen)
            (λ seen. absurd (let marked = unseen_word object inside seen in omega (arith, marked, white)))

        unwon : times object view.won ≡ 0
        unwon =
            zero-if_never (times object view.won)
            (λ won. absurd (let seen = its.won object won in omega (arith, seen, unseen)))

    -- ---- the state after each step is lawful

    IsLawful-looked : (object : ℕ) → object < count → 1 ≤ view.weight
        → IsLawful marking
        (state_of kept.shades kept.sums (set table.views id (looked object (shade_of (slice_index table.words object)) view)))
    IsLawful-looked object inside weight =
        subst (λ (shade : Shade). IsLawful marking (state_of kept.shades kept.sums (set table.views id (looked object shade view))))
        (sym (shade_is object inside))
        (lawful_view kept.shades kept.sums (λ v. set table.views id (looked object (shade_at kept.shades object) v))
        (IsLawful-look marking state id pass_inside kept.lawful object (of_pass (λ v. 1 ≤ v.weight) weight)))

    -- the shades behind a claim
    abbrev greyed_shades : ℕ → List Shade
    greyed_shades object = set kept.shades object (greyed (shade_at kept.shades object))

    IsLawful-claimed : (parent object : ℕ) → object < count → HasSeen view parent → marking.graph.Edge parent object
        → IsLawful marking
        (state_of (greyed_shades object) kept.sums
        (set table.views id (claimed object (shade_of (slice_index table.words object)) view)))
    IsLawful-claimed parent object inside seen edge =
        subst
        (λ (shade : Shade).
        IsLawful marking (state_of (greyed_shades object) kept.sums (set table.views id (claimed object shade view))))
        (sym (shade_is object inside))
        (lawful_view (greyed_shades object) kept.sums (λ v. set table.views id (claimed object (shade_at kept.shades object) v))
        (IsLawful-claim marking state id pass_inside kept.lawful parent object (of_pass (λ v. HasSeen v parent) seen) inside edge))

    IsLawful-blackened : (object : ℕ) → object < count → HasSeen view object
        → ((target : ℕ) → marking.graph.Edge object target → HasSeen view target)
        → IsLawful marking (state_of (set kept.shades object Black) kept.sums (set table.views id (blackened object view)))
    IsLawful-blackened object inside seen targets =
        lawful_view (set kept.shades object Black) kept.sums (λ v. set table.views id (blackened object v))
        (IsLawful-blacken marking state id pass_inside kept.lawful object (of_pass (λ v. HasSeen v object) seen) inside
        (λ target edge. of_pass (λ v. HasSeen v target) (targets target edge)))

    module _ (object : ℕ) where
      abbrev region : ℕ
      region = marking.region object

      -- the regions' numbers behind a count
      abbrev grown_sums : List ℕ
      grown_sums = grown kept.sums region (marking.words object)

      module _ (won : HasWon view object) (new : times object view.counted ≡ 0) (inside : marking.region object < marking.regions)
        where
          IsLawful-counted : IsLawful marking (state_of kept.shades grown_sums (set table.views id (counted object view)))
          IsLawful-counted =
              lawful_view kept.shades grown_sums (λ v. set table.views id (counted object v))
              (IsLawful-count marking state id pass_inside kept.lawful object (of_pass (λ v. HasWon v object) won)
              (of_pass (λ v. times object v.counted ≡ 0) new))

          -- the sum does not wrap
          counted_exactly : (slice_index table.words (count + region) + marking.words object) % 2 ^ 64
              ≡ get_or kept.sums region 0 + marking.words object
          counted_exactly =
              let few = total_counted-few marking _ IsLawful-counted kept.few_words region in
              let each = IsLawful-counted.sums.each region inside in
              let now = get_or-set_same kept.sums region (get_or kept.sums region 0 + marking.words object) 0
              (subst (λ n. region < n) (sym kept.lawful.sums.sized) inside) in
              ap (λ n. (n + marking.words object) % 2 ^ 64) (sum_is region) ∙ mod-eq_of_lt (omega (arith, few, each, now))

          words_counted : set table.words (count + region) ((slice_index table.words (count + region) + marking.words object) % 2 ^ 64)
              ≡ map number_of kept.shades ++ grown_sums
          words_counted =
              ap (λ w. set table.words (count + region) w) counted_exactly
              ∙ sums_set region (get_or kept.sums region 0 + marking.words object)

    IsLawful-parted : (weight : ℕ) → 1 ≤ weight → weight < view.weight
        → IsLawful marking
        (state_of kept.shades kept.sums (set table.views id (kept_of weight view) ++ part_of weight ∷ []))
    IsLawful-parted weight positive below =
        lawful_view kept.shades kept.sums (λ v. set table.views id (kept_of weight v) ++ part_of weight ∷ [])
        (IsLawful-split marking state id pass_inside kept.lawful weight positive (of_pass (λ v. weight < v.weight) below))

    module _ (other : ℕ) (theirs : View) (differs : other ≢ id)
        (at_other : get_elem? (set table.views id (joined view theirs)) other ≡ some theirs) where
      is_theirs : pass_at table.views other ≡ theirs
      is_theirs =
          sym (get_or-set_other table.views id other (joined view theirs) spent differs)
          ∙ item_at (set table.views id (joined view theirs)) other theirs spent at_other

      other_inside : other < length table.views
      other_inside =
          subst (λ n. other < n) (length-set table.views id (joined view theirs))
          (inside_at (set table.views id (joined view theirs)) other theirs at_other)

      IsLawful-joined : 1 ≤ theirs.weight
          → IsLawful marking (state_of kept.shades kept.sums (set (set table.views id (joined view theirs)) other spent))
      IsLawful-joined weight =
          lawful_view kept.shades kept.sums (λ v. set (set table.views id (joined v theirs)) other spent)
          (subst
          (λ (v : View).
          IsLawful marking
          (state_of kept.shades kept.sums (set (set table.views id (joined (pass_at table.views id) v)) other spent)))
          is_theirs
          (IsLawful-join marking state id pass_inside kept.lawful other differs other_inside
          (subst (λ (v : View). 1 ≤ v.weight) (sym is_theirs) weight)))

module _ (marking : Marking) {S : Type 0} (slots id : ℕ) (before : Me S View) where
  -- a look
  pub look_allowed : (object : ℕ) → object < marking.graph.count → 1 ≤ before.0.weight
      → Allows (IsKept marking {S = S}) slots id before object (λ n. n) (Looked (step slots object 0 0 none) before)
  look_allowed object inside weight table kept long at small = (
    looked object (shade_of (slice_index table.words object)) before.0,
    keeps,
    tt,
    IsKept-with marking table kept kept.shades kept.sums _ (set-get_or table.words object 0 ∙ kept.words)
        (IsLawful-looked marking table kept id before.0 at object inside weight),
    record {
      small = subst (λ n. n ≤ 2) (sym (word_is marking table kept object inside)) (number_of-le (shade_at kept.shades object));
      knows = refl;
      unwon = λ won.
          unseen_word marking table kept id before.0 at object inside ((its marking table kept id before.0 at).won object won);
      unseen = unseen_word marking table kept id before.0 at object inside;
      black = black_word marking table kept id before.0 at object inside;
    },
  )

  -- a claim along an edge from an object that the pass has seen
  pub claim_allowed : (parent object : ℕ)
      → object < marking.graph.count → HasSeen before.0 parent → marking.graph.Edge parent object
      → Allows (IsKept marking {S = S}) slots id before object (λ n. max n 1) (Claimed (step slots object 1 0 none) before)
  claim_allowed parent object inside seen edge table kept long at small = (
    claimed object (shade_of (slice_index table.words object)) before.0,
    keeps,
    tt,
    IsKept-with marking table kept (greyed_shades marking table kept id before.0 at object) kept.sums _
        (words_set marking table kept object (max (slice_index table.words object) 1) (greyed shade) inside
        (ap (λ n. max n 1) (word_is marking table kept object inside) ∙ number_of-greyed shade))
        (IsLawful-claimed marking table kept id before.0 at parent object inside seen edge),
    record { knows = refl; new = new_word marking table kept id before.0 at object inside },
  )
    where
      shade : Shade
      shade = shade_at kept.shades object

  -- an object that the pass won is counted
  pub count_allowed : (object : ℕ)
      → HasWon before.0 object → times object before.0.counted ≡ 0 → marking.region object < marking.regions
      → Allows (IsKept marking {S = S}) slots id before (marking.graph.count + marking.region object)
      (λ n. (n + marking.words object) % 2 ^ 64)
      (Counted object (step slots (marking.graph.count + marking.region object) (marking.words object) 0 none) before)
  count_allowed object won new inside table kept long at small = (
    counted object before.0,
    keeps,
    tt,
    IsKept-with marking table kept kept.shades (grown_sums marking table kept id before.0 at object) _
        (words_counted marking table kept id before.0 at object won new inside)
        (IsLawful-counted marking table kept id before.0 at object won new inside),
    refl,
  )

  -- an object becomes black
  pub blacken_allowed : (object : ℕ) → object < marking.graph.count → HasSeen before.0 object
      → ((target : ℕ) → marking.graph.Edge object target → HasSeen before.0 target)
      → Allows (IsKept marking {S = S}) slots id before object (λ n. max n 2) (Blackened (step slots object 2 0 none) before)
  blacken_allowed object inside seen targets table kept long at small = (
    blackened object before.0,
    keeps,
    tt,
    IsKept-with marking table kept (set kept.shades object Black) kept.sums _
        (words_set marking table kept object (max (slice_index table.words object) 2) Black inside
        (ap (λ n. max n 2) (word_is marking table kept object inside) ∙ number_of-black (shade_at kept.shades object)))
        (IsLawful-blackened marking table kept id before.0 at object inside seen targets),
    refl,
  )

  -- a load of the first word tells a pass that its weight is that of workers
  pub weigh_allowed : Allows (IsKept marking {S = S}) slots id before 0 (λ n. n) (Weighed (step slots 0 0 0 none) before)
  weigh_allowed table kept long at small = (
    before.0,
    keeps,
    tt,
    IsKept-with marking table kept kept.shades kept.sums _ (set-get_or table.words 0 0 ∙ kept.words)
        (subst (λ (views : List View). IsLawful marking (state_of kept.shades kept.sums views))
        (sym (same_views table.views id before.0 at)) kept.lawful),
    (refl, few_workers),
  )
    where
      same_views : {X : Type 0} (xs : List X) (i : ℕ) (x : X) → get_elem? xs i ≡ some x → set xs i x ≡ xs
      same_views [] i x e = refl
      same_views (y ∷ xs) zero x e = ap (λ z. z ∷ xs) (sym (some-injective y x e))
      same_views (y ∷ xs) (suc i) x e = ap (λ zs. y ∷ zs) (same_views xs i x e)

      few_workers : before.0.weight ≤ 64
      few_workers =
          let part = get_or-le-sum_by (λ (v : View). v.weight) table.views id spent (inside_at table.views id before.0 at) in
          let is = ap (λ (v : View). v.weight) (is_view marking table kept id before.0 at) in
          omega (arith, part, is, kept.lawful.weights, kept.few)

module _ (marking : Marking) {S : Type 0} (id : ℕ) (view : View) where
  -- a pass gives a part of its weight to a new one
  pub split_allowed : (weight : ℕ) → 1 ≤ weight → weight < view.weight
      → Splits (IsKept marking {S = S}) id view (kept_of weight view) (part_of weight)
  split_allowed weight positive below table kept at =
      IsKept-with marking table kept kept.shades kept.sums _ kept.words
      (IsLawful-parted marking table kept id view at weight positive below)

  -- a pass takes in another
  pub join_allowed : (other : ℕ) (theirs : View) → 1 ≤ theirs.weight
      → Joins (IsKept marking {S = S}) id view other theirs (joined view theirs) spent
  join_allowed other theirs weight table kept at differs at_other =
      IsKept-with marking table kept kept.shades kept.sums _ kept.words
      (IsLawful-joined marking table kept id view at other theirs differs at_other weight)
