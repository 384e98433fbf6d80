-- The rows below a row, one object after the other; the objects of rows; sums over smaller objects.
-- Serves the functions of `rows`.
use Rattle.std.proofs.Common.{◌≡◌, ℕ, suc, ◌+◌, ◌-◌, ◌<◌, ◌≤◌, Bool, true, false, cond, List, [], ◌∷◌, ◌++◌, length, take, get_or}
use Rattle.std.proofs.Common.{Option, Some, refl, sym, ap, subst, ◌∙◌, arith}
use Rattle.std.specs.List.{filter}
use Rattle.std.proofs.lemmas.List.{append-nil, append_assoc, take_all}
use Rattle.std.proofs.lemmas.List.Elements.{filter_more}
use Rattle.sqz_dominators.specs.Children.{retained_bytes}
use Rattle.sqz_answers.specs.declared.levels.Level.{Level}
use Rattle.sqz_answers.specs.declared.rows.Place.{Place}
use Rattle.sqz_answers.specs.declared.rows.TopRow.{TopRow}
use Rattle.sqz_answers.specs.declared.top_tree.TopTree.{TopTree}
use Rattle.sqz_answers.specs.TopRows.{AreRowsFrom, AreRowsOf, is_shown, is_smaller, object_row, smaller_rows}
use Rattle.sqz_answers.specs.TopRows.AreRowsOf.{none, more}
use Rattle.sqz_answers.specs.TopTrees.{AddsRows, IsLevelOf}

-- the rows of a child of a row's part, with the rows below it
abbrev pub ChildRows : TopTree → Place → ℕ → List TopRow → Type 0
ChildRows top place child rows = AreRowsFrom top.graph.heap.now top.dominators.now top.parts.now top.limits
    (top.limits.depth - (place.depth + 1)) (place.depth + 1) (Some place.object) child rows

-- the rows of those of some objects that have rows come after others
pub record AddsBelow (top : TopTree) (place : Place) (old new : List TopRow) (objects : List ℕ) : Type 0 where
  pub shown : List TopRow
  pub are : AreRowsOf (ChildRows top place) (filter (is_shown top.dominators.now top.limits) objects) shown
  pub added : new ≡ old ++ shown

module _ (top : TopTree) (place : Place) (old : List TopRow) where
  pub AddsBelow-none : AddsBelow top place old old []
  AddsBelow-none = record { shown = []; are = none; added = sym (append-nil old) }

  module _ (objects : List ℕ) (i : ℕ) (d : ℕ) (lt : i < length objects) (rows : List TopRow)
      (adds : AddsBelow top place old rows (take i objects)) where
    abbrev shows : ℕ → Bool
    shows = is_shown top.dominators.now top.limits

    pub AddsBelow-more_no : shows (get_or objects i d) ≡ false → AddsBelow top place old rows (take (i + 1) objects)
    AddsBelow-more_no hidden =
        let longer : filter shows (take (i + 1) objects) ≡ filter shows (take i objects) =
        filter_more shows objects i d lt
        ∙ ap (λ (b : Bool). filter shows (take i objects) ++ cond b (get_or objects i d ∷ []) []) hidden
        ∙ append-nil (filter shows (take i objects))
        in
        record {
          shown = adds.shown;
          are = subst (λ (xs : List ℕ). AreRowsOf (ChildRows top place) xs adds.shown) (sym longer) adds.are;
          added = adds.added;
        }

    pub AddsBelow-more_yes : shows (get_or objects i d) ≡ true → (new last : List TopRow) → ChildRows top place (get_or objects i d) last
        → new ≡ rows ++ last → AddsBelow top place old new (take (i + 1) objects)
    AddsBelow-more_yes passes new last are added =
        let longer : filter shows (take (i + 1) objects) ≡ filter shows (take i objects) ++ get_or objects i d ∷ [] =
        filter_more shows objects i d lt
        ∙ ap (λ (b : Bool). filter shows (take i objects) ++ cond b (get_or objects i d ∷ []) []) passes
        in
        record {
          shown = adds.shown ++ last;
          are = subst (λ (xs : List ℕ). AreRowsOf (ChildRows top place) xs (adds.shown ++ last)) (sym longer)
              (more (filter shows (take i objects)) adds.shown (get_or objects i d) last adds.are are);
          added = added ∙ ap (λ (xs : List TopRow). xs ++ last) adds.added ∙ append_assoc old adds.shown last;
        }

    -- as a function that appends the rows of a child states it
    pub AddsBelow-next : shows (get_or objects i d) ≡ true → (child : Place) → child.object ≡ get_or objects i d
        → child.depth ≡ place.depth + 1 → child.parent ≡ Some place.object → (new : List TopRow) → AddsRows top child rows new
        → AddsBelow top place old new (take (i + 1) objects)
    AddsBelow-next passes child object_is depth_is parent_is new its =
        let Rows : ℕ → Option ℕ → ℕ → Type 0 = λ depth parent object.
        AreRowsFrom top.graph.heap.now top.dominators.now top.parts.now top.limits (top.limits.depth - depth) depth parent object its.rows
        in
        AddsBelow-more_yes passes new its.rows
        (subst (λ (object : ℕ). Rows (place.depth + 1) (Some place.object) object) object_is
        (subst (λ (parent : Option ℕ). Rows (place.depth + 1) parent child.object) parent_is
        (subst (λ (depth : ℕ). Rows depth child.parent child.object) depth_is its.are)))
        its.added

  -- all of them
  pub AddsBelow-all : (objects all : List ℕ) (i : ℕ) (rows : List TopRow) → AddsBelow top place old rows (take i objects)
      → length objects ≤ i → objects ≡ all → AddsBelow top place old rows all
  AddsBelow-all objects all i rows adds past same =
      subst (AddsBelow top place old rows) (take_all i objects past ∙ same) adds

-- ---- the whole

-- one level less is left below a row than at it
pub levels_left : (depth most : ℕ) → depth < most → most - depth ≡ suc (most - (depth + 1))
levels_left depth most lt = omega arith

module _ (top : TopTree) (place : Place) (level : Level) (is : IsLevelOf top place.object level) (old : List TopRow) where
  abbrev row : ℕ → TopRow
  row apart = object_row top.dominators.now top.parts.now place.depth place.parent place.object level.own apart

  -- a row with the rows below it
  pub AddsRows-inner : (first shown new : List TopRow) → place.depth < top.limits.depth
      → first ≡ old ++ row level.own ∷ [] → AddsBelow top place first shown level.below.items
      → new ≡ shown ++ smaller_rows top.dominators.now (place.depth + 1) place.object
      (filter (is_smaller top.dominators.now top.limits) level.below.items) → AddsRows top place old new
  AddsRows-inner first shown new inner first_is adds added =
      let smaller = smaller_rows top.dominators.now (place.depth + 1) place.object
      (filter (is_smaller top.dominators.now top.limits) level.below.items) in
      record {
        rows = row level.own ∷ (adds.shown ++ smaller);
        are = rw (levels_left place.depth top.limits.depth inner)
            (record {
              own = level.own;
              below = level.below.items;
              level = is.is;
              shown = adds.shown;
              are_shown = adds.are;
              are = refl;
            });
        added = added
            ∙ ap (λ (xs : List TopRow). xs ++ smaller) (adds.added ∙ ap (λ (xs : List TopRow). xs ++ adds.shown) first_is)
            ∙ ap (λ (xs : List TopRow). xs ++ smaller) (append_assoc old (row level.own ∷ []) adds.shown)
            ∙ append_assoc old (row level.own ∷ adds.shown) smaller;
      }
