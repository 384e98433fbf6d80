-- Whether this is what an object retains, by a test that computes.
-- Serves the functions of `dominators`.
use Rattle.std.proofs.Common.{◌≡◌, ℕ, zero, suc, ◌+◌, ◌*◌, Bool, true, false, ◌&&◌, eqb, List, [], ◌∷◌, length, map, Option, Some, None}
use Rattle.std.proofs.Common.{refl, sym, subst, ◌∙◌, arith}
use Rattle.std.specs.Prelude.{sum_by}
use Rattle.std.specs.List.{list_any}
use Rattle.std.specs.Option.{is_some}
use Rattle.std.proofs.lemmas.Bool.{and_parts, eqb-true}
use Rattle.std.proofs.lemmas.Cmp.{nat_eq_equiv}
use Rattle.std.proofs.lemmas.List.{length-map}
use Rattle.std.proofs.lemmas.Map.Views.{list_any-from_Contains}
use Rattle.sqz_image.specs.Objects.{Memory, Object}
use Rattle.sqz_trace.specs.declared.weak.Weak.{Weak}
use Rattle.sqz_trace.specs.Graph.{Leads, is_marked}
use Rattle.sqz_trace.specs.Live.{live}
use Rattle.sqz_trace.specs.Reachability.{graph_from}
use Rattle.sqz_trace.proofs.ReachabilityLemmas.{MarksReachable-from_tracing}
use Rattle.sqz_dominators.specs.declared.retained.Retained.{Retained}
use Rattle.sqz_dominators.specs.Dominators.{Dominates}
use Rattle.sqz_dominators.specs.Retained.{IsRetained}
use Rattle.sqz_test_examples.proofs.TracingTest.{marks_of, leads_to, leads_to-true, all_lead}
use Rattle.sqz_test_examples.proofs.TracingTest.{is_tracing_from, is_tracing_from-true, is_tracing_from-leads}
use Rattle.sqz_test_examples.proofs.DominatorTest.{is_closed_without, Dominates-computed}

-- whether no object is marked in both
abbrev pub are_apart : List Bool → List Bool → Bool
are_apart (true ∷ xs) (true ∷ ys) = false
are_apart (_ ∷ xs) (_ ∷ ys) = are_apart xs ys
are_apart _ _ = true

apart_at : (xs ys : List Bool) (index : ℕ) → are_apart xs ys ≡ true → is_marked xs index ≡ true → is_marked ys index ≡ false
apart_at [] ys index h m = absurd cc
apart_at (x ∷ xs) [] index h m = refl
apart_at (true ∷ xs) (true ∷ ys) index h m = absurd cc
apart_at (true ∷ xs) (false ∷ ys) zero h m = refl
apart_at (false ∷ xs) (y ∷ ys) zero h m = absurd cc
apart_at (true ∷ xs) (false ∷ ys) (suc index) h m = apart_at xs ys index h m
apart_at (false ∷ xs) (y ∷ ys) (suc index) h m = apart_at xs ys index h m

module _ (memory : Memory) (weak : Weak) (start : ℕ) where
  -- whether the path to an object, if there is one, contains this object
  abbrev pub is_through : ℕ → Option (List ℕ) → Bool
  is_through one None = false
  is_through one (Some path) = list_any (eqb one) (start ∷ path)

  -- the marks of the objects whose path contains it
  abbrev pub marks_through : ℕ → List (Option (List ℕ)) → List Bool
  marks_through one paths = map (is_through one) paths

  -- such an object has a path
  through_has_path : (one : ℕ) (paths : List (Option (List ℕ))) (index : ℕ) → is_marked (marks_through one paths) index ≡ true
      → is_marked (marks_of paths) index ≡ true
  through_has_path one [] index m = absurd cc
  through_has_path one (None ∷ paths) zero m = absurd cc
  through_has_path one ((Some path) ∷ paths) zero m = refl
  through_has_path one (path ∷ paths) (suc index) m = through_has_path one paths index m

  -- the path to an object contains what dominates it
  through_dominator : (one first : ℕ) (paths : List (Option (List ℕ))) (index : ℕ) → all_lead memory weak start first paths ≡ true
      → is_marked (marks_of paths) index ≡ true → Dominates (graph_from start memory weak) one (first + index)
      → is_marked (marks_through one paths) index ≡ true
  through_dominator one first [] index h m dominates = absurd cc
  through_dominator one first (None ∷ paths) zero h m dominates = absurd cc
  through_dominator one first ((Some path) ∷ paths) zero h m dominates =
      let graph = graph_from start memory weak in
      let parts = and_parts (leads_to memory weak start path first) (all_lead memory weak start (suc first) paths) h in
      let same : first ≡ first + zero = omega arith in
      let leads = subst (Leads graph start path) same (leads_to-true memory weak start start path first parts.0) in
      list_any-from_Contains nat_eq_equiv one (start ∷ path) (dominates.on_all path leads)
  through_dominator one first (None ∷ paths) (suc index) h m dominates =
      let same : first + suc index ≡ suc first + index = omega arith in
      through_dominator one (suc first) paths index h m (subst (Dominates (graph_from start memory weak) one) same dominates)
  through_dominator one first ((Some path) ∷ paths) (suc index) h m dominates =
      let parts = and_parts (leads_to memory weak start path first) (all_lead memory weak start (suc first) paths) h in
      let same : first + suc index ≡ suc first + index = omega arith in
      through_dominator one (suc first) paths index parts.1 m (subst (Dominates (graph_from start memory weak) one) same dominates)

  -- whether the object dominates all objects whose path contains it, and these are all objects that
  -- it retains; `without` has the marks of what is reachable without it
  abbrev pub is_retaining : ℕ → List Bool → List (Option (List ℕ)) → Retained → Bool
  is_retaining one without paths retained =
      let kept : List Object = live memory (marks_through one paths) in
      is_tracing_from memory weak start paths
      && (is_closed_without memory weak start one without
      && (are_apart (marks_through one paths) without
      && (eqb retained.objects (length kept) && eqb retained.bytes (4 * sum_by (λ object. length object.chunk) kept))))

  pub IsRetained-computed : (one : ℕ) (without : List Bool) (paths : List (Option (List ℕ))) (retained : Retained)
      → is_retaining one without paths retained ≡ true → IsRetained memory (graph_from start memory weak) one retained
  IsRetained-computed one without paths retained h =
      let marks : List Bool = marks_through one paths in
      let kept : List Object = live memory marks in
      let closed : Bool = is_closed_without memory weak start one without in
      let objects_are : Bool = eqb retained.objects (length kept) in
      let bytes_are : Bool = eqb retained.bytes (4 * sum_by (λ object. length object.chunk) kept) in
      let a = and_parts (is_tracing_from memory weak start paths) (closed && (are_apart marks without && (objects_are && bytes_are))) h in
      let b = and_parts closed (are_apart marks without && (objects_are && bytes_are)) a.1 in
      let c = and_parts (are_apart marks without) (objects_are && bytes_are) b.1 in
      let d = and_parts objects_are bytes_are c.1 in
      let reached = MarksReachable-from_tracing (graph_from start memory weak) (marks_of paths) (is_tracing_from-true memory weak start paths a.0) in
      record {
        marks = marks;
        dominated =
            record {
              sized = length-map paths (is_through one) ∙ (sym (length-map paths is_some) ∙ reached.sized);
              sound = λ other m.
                  Dominates-computed memory weak start one other without b.0 (apart_at marks without other c.0 m)
                  (reached.sound other (through_has_path one paths other m));
              complete = λ other dominates.
                  let same : other ≡ 0 + other = omega arith in
                  through_dominator one 0 paths other (is_tracing_from-leads memory weak start paths a.0)
                  (reached.complete other dominates.reachable) (subst (Dominates (graph_from start memory weak) one) same dominates);
            };
        objects = eqb-true retained.objects (length kept) d.0;
        bytes = eqb-true retained.bytes (4 * sum_by (λ object. length object.chunk) kept) d.1;
      }
