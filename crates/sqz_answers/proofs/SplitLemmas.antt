-- The children of the parts of a row are found one part after the other.
-- Serves `levels::TopTree::split`, `levels::TopTree::level_of` and `DescentLemmas`.
use Rattle.std.proofs.Common.{◌≡◌, ◌≢◌, ℕ, zero, suc, ◌+◌, ◌-◌, ◌<◌, ◌≤◌, Bool, true, false, not, cond, List, [], ◌∷◌, ◌++◌, length, map, All}
use Rattle.std.proofs.Common.{Option, Some, None, refl, sym, ap, subst, ◌∙◌, arith, inl, inr, eqb, get_or}
use Rattle.std.specs.Prelude.{Contains, slice_index}
use Rattle.std.specs.List.{AllPairs, filter}
use Rattle.std.proofs.lemmas.Bool.{cases_lt, cases_eq, eqb-true, eq-eqb}
use Rattle.std.proofs.lemmas.List.{length-map, length-append, get_or-map, get_or_append_left, get_or-append_right, get_or_default, get_or_past}
use Rattle.std.proofs.lemmas.List.Elements.{All-map, All-append, All-filter, filter_passes, All-from_get_or, All-contains}
use Rattle.std.proofs.lemmas.List.Elements.{Contains-append_left, Contains-append_right}
use Rattle.std.proofs.lemmas.List.Kept.{AllPairs-filter}
use Rattle.std.proofs.lemmas.Bool.Decides.{Decides-eqb}
use Rattle.std.proofs.lemmas.Map.Made.{IsDistinct-from_AllPairs}
use Rattle.std.proofs.lemmas.Map.Steps.{length-le_from_distinct_below}
use Rattle.std.proofs.lemmas.Map.Views.{Contains-from_any}
use Rattle.std.proofs.lemmas.Option.{same_Some}
use Rattle.sqz_image.specs.Objects.{Memory, object_count}
use Rattle.sqz_trace.specs.declared.weak.Weak.{Weak}
use Rattle.sqz_trace.specs.Graph.{Graph, IsReachable}
use Rattle.sqz_trace.specs.Reachability.{graph_from}
use Rattle.sqz_dominators.specs.declared.children.Child.{Child}
use Rattle.sqz_dominators.specs.Children.{AreChildren, ComesFirst, children_under, no_child, retained_bytes}
use Rattle.sqz_dominators.specs.Dominators.{Dominates}
use Rattle.sqz_dominators.specs.Retained.{DominatorTree, AreDominators}
use Rattle.sqz_dominators.proofs.BasicLemmas.{strictly}
use Rattle.sqz_answers.specs.Levels.{parent_of, held_value, is_joined, IsPart}
use Rattle.sqz_answers.specs.Levels.IsPart.{itself, joined}
use Rattle.sqz_answers.specs.Splits.{HasParentIn, IsSplit}
use Rattle.sqz_answers.specs.Variables.{Variables}
use Rattle.sqz_answers.proofs.DominanceLemmas.{Dominates-itself, Dominates-trans, Dominates-apart}

-- ---- lists

-- an element that passes is kept
pub Contains-filter : {X : Type 0} (test : X → Bool) (xs : List X) (x : X) → Contains xs x → test x ≡ true → Contains (filter test xs) x
Contains-filter test [] x there passes = absurd (omega (arith, there.1))
Contains-filter {X} test (y ∷ ys) x (zero, lt, is) passes =
    let P : X → Type 0 = λ z. Contains (cond (test z) (z ∷ filter test ys) (filter test ys)) x in
    subst P (sym is) (subst (λ (b : Bool). Contains (cond b (x ∷ filter test ys) (filter test ys)) x) (sym passes) (zero, omega arith, refl))
Contains-filter test (y ∷ ys) x (suc k, lt, is) passes =
    let rest = Contains-filter test ys x (k, omega arith, is) passes in
    by_test (test y) rest
  where
    by_test : (b : Bool) → Contains (filter test ys) x → Contains (cond b (y ∷ filter test ys) (filter test ys)) x
    by_test true rest = (suc rest.0, omega (arith, rest.1), rest.2)
    by_test false rest = rest

pub Contains-map : {X Y : Type 0} (f : X → Y) (xs : List X) (x : X) → Contains xs x → Contains (map f xs) (f x)
Contains-map f xs x there =
    (there.0, omega (arith, there.1, length-map xs f), get_or-map f xs there.0 x (f x) there.1 ∙ ap f there.2)

-- two lists with no repetition and no common element have none together
pub AllPairs-append : (xs ys : List ℕ) → AllPairs (λ one other. one ≢ other) xs → AllPairs (λ one other. one ≢ other) ys
    → ((i j : ℕ) → i < length xs → j < length ys → slice_index xs i ≢ slice_index ys j) → AllPairs (λ one other. one ≢ other) (xs ++ ys)
AllPairs-append xs ys first second between i j d lt inside =
    elim (cases_lt j (length xs)) [
      | inl low ↦
          rw (get_or_append_left xs ys d i (omega arith), get_or_append_left xs ys d j low) (first i j d lt low)
      | inr high ↦
          let long = length-append xs ys in
          let in_ys : j - length xs < length ys = omega (arith, long, inside) in
          elim (cases_lt i (length xs)) [
            | inl low ↦
                rw (get_or_append_left xs ys d i low, get_or-append_right xs ys (length xs) j d refl high)
                (λ same. between i (j - length xs) low in_ys
                (get_or_default xs i 0 d low ∙ same ∙ get_or_default ys (j - length xs) d 0 in_ys))
            | inr above ↦
                rw (get_or-append_right xs ys (length xs) i d refl above, get_or-append_right xs ys (length xs) j d refl high)
                (second (i - length xs) (j - length xs) d (omega arith) in_ys)
          ]
    ]

-- numbers below a bound with no repetition are no more than the bound
pub few_apart : (xs : List ℕ) (bound : ℕ) → AllPairs (λ one other. one ≢ other) xs → All (λ x. x < bound) xs → length xs ≤ bound
few_apart xs bound apart low =
    length-le_from_distinct_below xs bound (IsDistinct-from_AllPairs Decides-eqb xs apart)
    (λ q there. All-contains (λ x. x < bound) xs q low (Contains-from_any eqb-true q xs there))

-- ---- the children of an object

abbrev pub kids : List Child → ℕ → List ℕ
kids children part = map (λ child. child.object) (children_under part children)

not_true : (b : Bool) → not b ≡ true → b ≡ false
not_true true same = absurd cc
not_true false same = refl

module _ (tree : DominatorTree) (children : List Child) (are : AreChildren tree children) where
  abbrev IsChild : Child → Type 0
  IsChild child = parent_of tree child.object ≡ Some child.parent

  abbrev HasParent : ℕ → ℕ → Type 0
  HasParent part child = parent_of tree child ≡ Some part

  each_child : All IsChild children
  each_child = All-from_get_or IsChild children no_child are.each

  pub each_kid : (part : ℕ) → All (HasParent part) (kids children part)
  each_kid part =
      let test : Child → Bool = λ child. eqb child.parent part in
      All-map (HasParent part) (λ (child : Child). child.object) (children_under part children)
      (λ k d lt. All-filter test IsChild children each_child k d lt
      ∙ ap (λ (n : ℕ). Some n) (eqb-true _ _ (filter_passes test children k d lt)))

  pub all_kids : (part child : ℕ) → HasParent part child → Contains (kids children part) child
  all_kids part child is =
      let its : Child = record { parent = part; object = child } in
      Contains-map (λ (child : Child). child.object) (children_under part children) its
      (Contains-filter (λ (child : Child). eqb child.parent part) children its (are.all child part is) (eq-eqb part part refl))

  abbrev Differ : Child → Child → Type 0
  Differ one other = one.object ≢ other.object

  differ : (one other : Child) → IsChild one → IsChild other → ComesFirst tree one other → Differ one other
  differ one other first second (inl lower) same =
      let parents : one.parent ≡ other.parent = same_Some _ _ (sym first ∙ ap (parent_of tree) same ∙ second) in
      absurd (omega arith)
  differ one other first second (inr (parents, inl more)) same =
      let retains : retained_bytes tree one.object ≡ retained_bytes tree other.object = ap (retained_bytes tree) same in
      absurd (omega arith)
  differ one other first second (inr (parents, inr tied)) same = absurd (omega (arith, tied.1))

  children_apart : AllPairs Differ children
  children_apart i j d lt inside =
      let low : i < length children = omega arith in
      rw (get_or_default children i d no_child low, get_or_default children j d no_child inside)
      (differ _ _ (are.each i low) (are.each j inside) (are.ordered i j lt inside))

  pub kids_apart : (part : ℕ) → AllPairs (λ one other. one ≢ other) (kids children part)
  kids_apart part i j d lt inside =
      let under = children_under part children in
      let long = length-map under (λ (child : Child). child.object) in
      let in_under : j < length under = omega (arith, inside, long) in
      rw (get_or-map (λ (child : Child). child.object) under i no_child d (omega arith), get_or-map (λ (child : Child). child.object) under j no_child d in_under)
      (AllPairs-filter Differ (λ (child : Child). eqb child.parent part) children children_apart i j no_child lt in_under)

-- ---- no object is a part of its own row below itself

module _ (memory : Memory) (weak : Weak) (tree : DominatorTree) (variables : Variables) (dominators : AreDominators memory weak tree) where
  abbrev graph : Graph
  graph = graph_from dominators.start memory weak

  pub part_dominated : (object : ℕ) → IsReachable graph object → {part : ℕ} → IsPart tree variables object part → Dominates graph object part
  part_dominated object reached itself = Dominates-itself graph object reached
  part_dominated object reached (joined part child is is_child passes) =
      Dominates-trans graph object part child (part_dominated object reached is) (dominators.immediate.each child part is_child).dominates

  pub no_parent : (object part : ℕ) → IsPart tree variables object part → parent_of tree object ≡ Some part → ⊥
  no_parent object part is_part is =
      let immediate = dominators.immediate.each object part is in
      Dominates-apart graph part object immediate.apart immediate.dominates
      (part_dominated object immediate.dominates.reachable is_part)

  -- an object that has a parent is one of the image
  pub child_inside : (child part : ℕ) → parent_of tree child ≡ Some part → child < object_count memory
  child_inside child part is =
      elim (cases_lt child (length tree.immediate)) [
        | inl low ↦ omega (arith, low, dominators.immediate.sized)
        | inr past ↦ absurd (none_some (sym (get_or_past tree.immediate child None past) ∙ is))
      ]
    where
      none_some : {x : ℕ} → None ≡ Some x → ⊥
      none_some e = absurd cc

-- ---- one part more

module _ (memory : Memory) (weak : Weak) (tree : DominatorTree) (variables : Variables) (dominators : AreDominators memory weak tree)
    (children : List Child) (are : AreChildren tree children) (object : ℕ) where
  abbrev joins : ℕ → Bool
  joins child = is_joined variables (held_value tree variables object) child

  abbrev IsOne : ℕ → Type 0
  IsOne part = IsPart tree variables object part

  pub IsSplit-start : IsSplit tree variables object 0 (object ∷ []) []
  IsSplit-start =
      record {
        some = omega arith;
        within = omega arith;
        first = refl;
        once = λ i j d lt inside. absurd (omega arith);
        once_below = λ i j d lt inside. absurd (omega arith);
        are_parts = λ k d lt. one k d lt;
        apart = λ k d lt. absurd (omega arith);
        led = λ k pos lt. absurd (omega arith);
        led_below = λ k lt. absurd (omega arith);
        closed = λ j child lt is yes. absurd (omega arith);
        closed_below = λ j child lt is no. absurd (omega arith);
      }
    where
      one : (k d : ℕ) → k < 1 → IsOne (get_or (object ∷ []) k d)
      one zero d lt = itself
      one (suc k) d lt = absurd (omega arith)

  module _ (bound : ℕ) (parts below : List ℕ) (split : IsSplit tree variables object bound parts below) (there : bound < length parts) where
    abbrev part : ℕ
    part = slice_index parts bound

    abbrev new : List ℕ
    new = filter joins (kids children part)

    abbrev new_below : List ℕ
    new_below = filter (λ child. not (joins child)) (kids children part)

    is_part : IsOne part
    is_part = split.are_parts bound 0 there

    each_new : All (HasParent tree children are part) new
    each_new = All-filter joins (HasParent tree children are part) (kids children part) (each_kid tree children are part)

    each_below : All (HasParent tree children are part) new_below
    each_below =
        All-filter (λ child. not (joins child)) (HasParent tree children are part) (kids children part) (each_kid tree children are part)

    -- another part is not the parent of a child of this one
    not_led : (child : ℕ) → HasParentIn tree parts bound child → parent_of tree child ≡ Some part → ⊥
    not_led child led is =
        split.once led.0 bound 0 led.1 there (same_Some _ _ (sym led.2 ∙ is))

    between : (i j : ℕ) → i < length parts → j < length new → slice_index parts i ≢ slice_index new j
    between i j in_parts in_new same =
        let is : parent_of tree (slice_index parts i) ≡ Some part = ap (parent_of tree) same ∙ each_new j 0 in_new in
        elim (cases_eq i 0) [
          | inl first ↦
              let object_is : slice_index parts i ≡ object = ap (slice_index parts) first ∙ split.first in
              no_parent memory weak tree variables dominators object part is_part (sym (ap (parent_of tree) object_is) ∙ is)
          | inr later ↦ not_led (slice_index parts i) (split.led i (strictly 0 i (omega arith) (λ same. later (sym same))) in_parts) is
        ]

    between_below : (i j : ℕ) → i < length below → j < length new_below → slice_index below i ≢ slice_index new_below j
    between_below i j in_below in_new same =
        not_led (slice_index below i) (split.led_below i in_below) (ap (parent_of tree) same ∙ each_below j 0 in_new)

    kept : (k : ℕ) → k < length parts → slice_index (parts ++ new) k ≡ slice_index parts k
    kept k lt = get_or_append_left parts new 0 k lt

    led_kept : (child : ℕ) → HasParentIn tree parts bound child → HasParentIn tree (parts ++ new) (bound + 1) child
    led_kept child led = (led.0, omega (arith, led.1), led.2 ∙ ap (λ (n : ℕ). Some n) (sym (kept led.0 (omega (arith, led.1, there)))))

    led_new : (child : ℕ) → parent_of tree child ≡ Some part → HasParentIn tree (parts ++ new) (bound + 1) child
    led_new child is = (bound, omega arith, is ∙ ap (λ (n : ℕ). Some n) (sym (kept bound there)))

    pub IsSplit-more : IsSplit tree variables object (bound + 1) (parts ++ new) (below ++ new_below)
    IsSplit-more =
        let long = length-append parts new in
        let long_below = length-append below new_below in
        record {
          some = omega (arith, long, split.some);
          within = omega (arith, long);
          first = kept 0 split.some ∙ split.first;
          once = AllPairs-append parts new split.once
              (AllPairs-filter (λ one other. one ≢ other) joins (kids children part) (kids_apart tree children are part)) between;
          once_below = AllPairs-append below new_below split.once_below
              (AllPairs-filter (λ one other. one ≢ other) (λ child. not (joins child)) (kids children part) (kids_apart tree children are part)) between_below;
          are_parts = All-append IsOne parts new split.are_parts
              (λ k d lt. joined part (get_or new k d) is_part (each_new k d lt) (filter_passes joins (kids children part) k d lt));
          apart = All-append (λ child. joins child ≡ false) below new_below split.apart
              (λ k d lt. not_true _ (filter_passes (λ child. not (joins child)) (kids children part) k d lt));
          led = λ k pos lt.
              elim (cases_lt k (length parts)) [
                | inl low ↦ subst (HasParentIn tree (parts ++ new) (bound + 1)) (sym (kept k low)) (led_kept _ (split.led k pos low))
                | inr high ↦
                    subst (HasParentIn tree (parts ++ new) (bound + 1)) (sym (get_or-append_right parts new (length parts) k 0 refl high))
                    (led_new _ (each_new (k - length parts) 0 (omega (arith, long, lt))))
              ];
          led_below = λ k lt.
              elim (cases_lt k (length below)) [
                | inl low ↦
                    subst (HasParentIn tree (parts ++ new) (bound + 1)) (sym (get_or_append_left below new_below 0 k low))
                    (led_kept _ (split.led_below k low))
                | inr high ↦
                    subst (HasParentIn tree (parts ++ new) (bound + 1)) (sym (get_or-append_right below new_below (length below) k 0 refl high))
                    (led_new _ (each_below (k - length below) 0 (omega (arith, long_below, lt))))
              ];
          closed = λ j child lt is yes.
              elim (cases_lt j bound) [
                | inl low ↦
                    Contains-append_left parts new child
                    (split.closed j child low (is ∙ ap (λ (n : ℕ). Some n) (kept j (omega (arith, low, there)))) yes)
                | inr high ↦
                    Contains-append_right parts new child
                    (Contains-filter joins (kids children part) child (all_kids tree children are part child (at_part j child lt high is)) yes)
              ];
          closed_below = λ j child lt is no.
              elim (cases_lt j bound) [
                | inl low ↦
                    Contains-append_left below new_below child
                    (split.closed_below j child low (is ∙ ap (λ (n : ℕ). Some n) (kept j (omega (arith, low, there)))) no)
                | inr high ↦
                    Contains-append_right below new_below child
                    (Contains-filter (λ child. not (joins child)) (kids children part) child
                    (all_kids tree children are part child (at_part j child lt high is)) (ap not no))
              ];
        }
      where
        at_part : (j child : ℕ) → j < bound + 1 → bound ≤ j → parent_of tree child ≡ Some (slice_index (parts ++ new) j)
            → parent_of tree child ≡ Some part
        at_part j child lt high is =
            let same : j ≡ bound = omega arith in
            is ∙ ap (λ (k : ℕ). Some (slice_index (parts ++ new) k)) same ∙ ap (λ (n : ℕ). Some n) (kept bound there)

    -- as a function that pushes the children of the part states it
    pub IsSplit-next : (one : ℕ) (value : Option ℕ) (parts_now below_now : List ℕ) → one ≡ slice_index parts bound
        → value ≡ held_value tree variables object → parts_now ≡ parts ++ filter (is_joined variables value) (kids children one)
        → below_now ≡ below ++ filter (λ child. not (is_joined variables value child)) (kids children one)
        → IsSplit tree variables object (bound + 1) parts_now below_now
    IsSplit-next one value parts_now below_now one_is value_is parts_are below_are =
        rw (parts_are, below_are, one_is, value_is) IsSplit-more

  -- ---- what was found

  module _ (bound : ℕ) (parts below : List ℕ) (split : IsSplit tree variables object bound parts below) (inside : object < object_count memory) where
    pub parts-inside : All (λ part. part < object_count memory) parts
    parts-inside = All-from_get_or (λ part. part < object_count memory) parts 0 each
      where
        each : (k : ℕ) → k < length parts → get_or parts k 0 < object_count memory
        each k lt =
            elim (cases_eq k 0) [
              | inl first ↦
                  let same : slice_index parts k ≡ object = ap (slice_index parts) first ∙ split.first in omega (arith, same, inside)
              | inr later ↦
                  let led = split.led k (strictly 0 k (omega arith) (λ same. later (sym same))) lt in
                  child_inside memory weak tree variables dominators (slice_index parts k) (slice_index parts led.0) led.2
            ]

    pub below-inside : All (λ child. child < object_count memory) below
    below-inside = All-from_get_or (λ child. child < object_count memory) below 0 each
      where
        each : (k : ℕ) → k < length below → get_or below k 0 < object_count memory
        each k lt =
            let led = split.led_below k lt in
            child_inside memory weak tree variables dominators (slice_index below k) (slice_index parts led.0) led.2

    pub parts-few : length parts ≤ object_count memory
    parts-few = few_apart parts (object_count memory) split.once parts-inside

    pub below-few : length below ≤ object_count memory
    below-few = few_apart below (object_count memory) split.once_below below-inside
