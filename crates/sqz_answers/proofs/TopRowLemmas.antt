-- What objects retain is less than an image can hold, and the objects of rows are those of the image.
-- Serves `rows::top_rows`.
use Rattle.std.proofs.Common.{◌≡◌, ℕ, zero, suc, ◌+◌, ◌-◌, ◌^◌, ◌<◌, ◌≤◌, Bool, true, false, cond, eqb, List, [], ◌∷◌, ◌++◌, length, All}
use Rattle.std.proofs.Common.{Option, Some, None, refl, sym, ap, subst, ◌∙◌, arith, inl, inr}
use Rattle.std.specs.Prelude.{sum_by, slice_index_or, IfSome}
use Rattle.std.specs.List.{concat, filter}
use Rattle.std.proofs.lemmas.Bool.{cases_lt}
use Rattle.std.proofs.lemmas.List.{get_or_append_left, get_or_past, get_or_push, length_push}
use Rattle.std.proofs.lemmas.List.Elements.{All-nil, All-cons, All-append, All-filter}
use Rattle.std.proofs.lemmas.List.Sums.{sum_by-cons}
use Rattle.std.proofs.lemmas.Option.{same_Some}
use Rattle.sqz_image.specs.Objects.{Memory, Object, objects, object_count}
use Rattle.sqz_trace.specs.declared.weak.Weak.{Weak}
use Rattle.sqz_trace.specs.Graph.{Graph, IsReachable, MarksReachable, is_marked}
use Rattle.sqz_trace.specs.Live.{marked}
use Rattle.sqz_trace.specs.Reachability.{graph_from, IsReachability}
use Rattle.sqz_dominators.proofs.BasicLemmas.{Contains-first}
use mathlib.Core.Bool.{Bool-set}
use Rattle.std.proofs.Math.Logic.{∥∥₁_elim}
use Rattle.sqz_image.proofs.ObjectLemmas.{find_in-lt}
use Rattle.sqz_answers.proofs.DescentLemmas.{reached-inside}
use Rattle.sqz_dominators.specs.declared.retained.Retained.{Retained}
use Rattle.sqz_dominators.specs.Children.{retained_bytes}
use Rattle.sqz_dominators.specs.Retained.{DominatorTree, AreDominators, nothing}
use Rattle.sqz_dominators.proofs.ObjectSumLemmas.{sizes-le}
use Rattle.sqz_answers.specs.declared.limits.TopLimits.{TopLimits}
use Rattle.sqz_answers.specs.declared.rows.TopRow.{TopRow}
use Rattle.sqz_answers.specs.Levels.{parent_of, is_the, value_under}
use Rattle.sqz_answers.specs.TopRows.{AreTopRows, AreRowsFrom, AreRowsOf, IsRowInside, is_shown, is_smaller, object_row, smaller_rows}
use Rattle.sqz_answers.specs.TopRows.AreRowsOf.{none, more}
use Rattle.sqz_answers.specs.Variables.{Variables}
use Rattle.sqz_answers.proofs.LevelLemmas.{below-objects}
use Rattle.sqz_answers.proofs.SplitLemmas.{child_inside}

-- ---- sizes

-- marked elements have no more than all
pub marked-le : {X : Type 0} (f : X → ℕ) (marks : List Bool) (xs : List X) → sum_by f (marked marks xs) ≤ sum_by f xs
marked-le f [] xs = omega arith
marked-le f (true ∷ marks) [] = omega arith
marked-le f (false ∷ marks) [] = omega arith
marked-le f (true ∷ marks) (x ∷ xs) = omega (arith, marked-le f marks xs, sum_by-cons f x (marked marks xs), sum_by-cons f x xs)
marked-le f (false ∷ marks) (x ∷ xs) = omega (arith, marked-le f marks xs, sum_by-cons f x xs)

module _ (memory : Memory) (weak : Weak) (tree : DominatorTree) (dominators : AreDominators memory weak tree) where
  pub retained_bytes-small : length (concat memory.chunks) < 2 ^ 30 → (object : ℕ) → retained_bytes tree object < 2 ^ 32
  retained_bytes-small few object =
      elim (cases_lt object (object_count memory)) [
        | inl low ↦
            let its = dominators.retained object low in
            let size : Object → ℕ = λ its. length its.chunk in
            let some = marked-le size its.marks (objects memory) in
            let all = sizes-le memory.chunks in
            let bytes = its.bytes in
            omega (arith, some, all, bytes, few)
        | inr past ↦
            let none = ap (λ (retained : Retained). retained.bytes)
            (get_or_past tree.retained object nothing (omega (arith, past, dominators.sized))) in
            omega (arith, none)
      ]

  -- ---- the objects of rows

  module _ (variables : Variables) where
    abbrev IsInside : ℕ → Type 0
    IsInside object = object < object_count memory

    value-inside : (object : ℕ) (value : Option ℕ) → IfSome (value_under tree object value) IsInside
    value-inside object None = tt
    value-inside object (Some value) = by_parent (parent_of tree value) refl
      where
        by_same : (same : Bool) (parent : ℕ) → parent_of tree value ≡ Some parent → IfSome (cond same (Some value) None) IsInside
        by_same true parent is = child_inside memory weak tree variables dominators value parent is
        by_same false parent is = tt

        by_parent : (parent : Option ℕ) → parent_of tree value ≡ parent
            → IfSome (cond (is_the parent object) (Some value) None) IsInside
        by_parent None is = tt
        by_parent (Some parent) is = by_same (eqb parent object) parent is

    abbrev IsRow : TopRow → Type 0
    IsRow = IsRowInside (object_count memory)

    row-inside : (depth : ℕ) (parent : Option ℕ) (object own apart : ℕ) → IsInside object → IfSome parent IsInside
        → IsRow (object_row tree variables depth parent object own apart)
    row-inside depth parent object own apart inside above =
        ((inside, value-inside object (slice_index_or variables.values object None)), above)

    smaller-inside : (depth parent : ℕ) (smaller : List ℕ) → IsInside parent → All IsRow (smaller_rows tree depth parent smaller)
    smaller-inside depth parent [] inside = All-nil IsRow
    smaller-inside depth parent (first ∷ others) inside = All-cons IsRow _ [] (tt, inside) (All-nil IsRow)

    -- the rows of objects, if those of each are
    each-inside : (Rows : ℕ → List TopRow → Type 0) → ((object : ℕ) (rows : List TopRow) → IsInside object → Rows object rows → All IsRow rows)
        → {objects : List ℕ} {rows : List TopRow} → AreRowsOf Rows objects rows → All IsInside objects → All IsRow rows
    each-inside Rows one none inside = All-nil IsRow
    each-inside Rows one (more objects rows object last before are) inside =
        let long = length_push objects object in
        All-append IsRow rows last
        (each-inside Rows one before
        (λ k d lt. subst IsInside (get_or_append_left objects (object ∷ []) d k lt) (inside k d (omega (arith, lt, long)))))
        (one object last
        (subst IsInside (get_or_push objects object object (length objects) refl) (inside (length objects) object (omega (arith, long)))) are)

    module _ (limits : TopLimits) where
      pub rows-inside : (levels depth : ℕ) (parent : Option ℕ) (object : ℕ) (rows : List TopRow) → IsInside object
          → IfSome parent IsInside → AreRowsFrom memory tree variables limits levels depth parent object rows → All IsRow rows
      rows-inside zero depth parent object rows inside above is =
          subst (All IsRow) (sym is.are)
          (All-cons IsRow _ [] (row-inside depth parent object is.own (retained_bytes tree object) inside above) (All-nil IsRow))
      rows-inside (suc levels) depth parent object rows inside above is =
          let shows = is_shown tree limits in
          let below = below-objects memory weak tree variables dominators object is.own is.below is.level in
          let shown = each-inside (λ child rows. AreRowsFrom memory tree variables limits levels (depth + 1) (Some object) child rows)
          (λ child rows low are. rows-inside levels (depth + 1) (Some object) child rows low inside are)
          is.are_shown (All-filter shows IsInside is.below below) in
          let smaller = smaller_rows tree (depth + 1) object (filter (is_smaller tree limits) is.below) in
          subst (All IsRow) (sym is.are)
          (All-cons IsRow _ (is.shown ++ smaller) (row-inside depth parent object is.own is.own inside above)
          (All-append IsRow is.shown smaller shown (smaller-inside (depth + 1) object (filter (is_smaller tree limits) is.below) inside)))

-- ---- from a live object

module _ (memory : Memory) (weak : Weak) (tree : DominatorTree) (dominators : AreDominators memory weak tree) where
  abbrev graph : Graph
  graph = graph_from dominators.start memory weak

  -- what is marked as live is reachable
  marked-dominated : (marks : List Bool) (object : ℕ) → is_marked marks object ≡ true → (inside : dominators.start < object_count memory)
      → IsReachability memory weak marks → is_marked (dominators.retained dominators.start inside).marks object ≡ true
  marked-dominated marks object marked inside reach =
      let same : reach.start ≡ dominators.start = same_Some _ _ (sym reach.is_special ∙ dominators.is_special) in
      let reached = subst (λ (i : ℕ). MarksReachable (graph_from i memory weak) marks) same reach.reached in
      (dominators.retained dominators.start inside).dominated.complete object
      (record { reachable = reached.sound object marked; on_all = λ path leads. Contains-first graph.start path })

  pub live-reached : (marks : List Bool) (object : ℕ) → ∥ IsReachability memory weak marks ∥₁ → is_marked marks object ≡ true
      → IsReachable graph object
  live-reached marks object reach marked =
      let inside = find_in-lt memory.base (objects memory) memory.special dominators.start dominators.is_special in
      let found = ∥∥₁_elim reach (Bool-set _ _) (marked-dominated marks object marked inside) in
      ((dominators.retained dominators.start inside).dominated.sound object found).reachable

  module _ (variables : Variables) (limits : TopLimits) (marks : List Bool) (reach : ∥ IsReachability memory weak marks ∥₁)
      (marked : is_marked marks limits.root ≡ true) where
    root-reached : IsReachable graph limits.root
    root-reached = live-reached marks limits.root reach marked

    pub root-inside : limits.root < object_count memory
    root-inside = reached-inside memory weak tree dominators limits.root root-reached

    module _ (rows new : List TopRow) (are : AreRowsFrom memory tree variables limits (limits.depth - 0) 0 None limits.root rows)
        (same : new ≡ rows) where
      pub AreTopRows-first : AreTopRows memory weak variables limits new
      AreTopRows-first =
          let whole : limits.depth - 0 ≡ limits.depth = omega arith in
          record {
            tree = tree;
            dominators = dominators;
            reached = root-reached;
            are = subst (λ (list : List TopRow). AreRowsFrom memory tree variables limits limits.depth 0 None limits.root list) (sym same)
                (subst (λ (levels : ℕ). AreRowsFrom memory tree variables limits levels 0 None limits.root rows) whole are);
          }

      pub all-inside : All (IsRowInside (object_count memory)) new
      all-inside =
          subst (All (IsRowInside (object_count memory))) (sym same)
          (rows-inside memory weak tree dominators variables limits (limits.depth - 0) 0 None limits.root rows root-inside tt are)
