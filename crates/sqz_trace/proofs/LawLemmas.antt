-- The law of shades: it holds at first, each step keeps it, and if no object is grey, it shows
-- that marking is complete.
-- Serves `finishing::finish` and `shades::first_shades`; `laws::core`, `EventLemmas` and
-- `RunLemmas` of `sqz_marks`; `locked_marking::LockedMarking::turn` and `RemainingLemmas` of
-- `sqz_workers`.
use Rattle.std.proofs.Common.{◌≡◌, ◌≢◌, ℕ, zero, suc, ◌<◌, ◌≤◌, Bool, true, false, List, [], ◌∷◌, length, set}
use Rattle.std.proofs.Common.{refl, sym, ap, subst, ◌∙◌, arith, inl, inr}
use Rattle.std.specs.Prelude.{replicate}
use Rattle.std.proofs.lemmas.Bool.{cases_order, cases_lt, cases_eq}
use Rattle.std.proofs.lemmas.List.{length-set, length-replicate, map-set, get_or-set_same, get_or-set_other}
use Rattle.sqz_trace.specs.declared.shades.Shade.{Shade}
use Rattle.sqz_trace.specs.declared.shades.Shade.TheVariants.{White, Grey, Black}
use Rattle.sqz_trace.specs.Graph.{Graph, IsReachable, is_marked, MarksReachable}
use Rattle.sqz_trace.specs.Shades.{shade_at, has_mark, marks_of, AreLawful}
use Rattle.sqz_trace.specs.Greying.{Blackens}
use Rattle.sqz_trace.proofs.ReachabilityLemmas.{IsReachable-next, MarksReachable-from_tracing}
use Rattle.sqz_trace.proofs.ShadeLemmas.{is_marked-shade, length-marks_of, marks_of-replicate}
use Rattle.sqz_trace.proofs.ShadeLemmas.{white-grey, white-black, grey-black, marked-by, marked-same}
use Rattle.sqz_trace.proofs.MarkingLemmas.{IsMarking, IsMarking-start}

module _ (graph : Graph) where
  -- it holds if the start is grey, and every other object white
  pub AreLawful-first : graph.start < graph.count → AreLawful graph (set (replicate graph.count White) graph.start Grey)
  AreLawful-first inside =
      let marking = subst (λ (marks : List Bool). IsMarking graph marks (graph.start ∷ [])) (sym first) (IsMarking-start graph inside) in
      record {
        sized = length-set (replicate graph.count White) graph.start Grey ∙ length-replicate graph.count White;
        has_start = marking.has_start;
        sound = marking.sound;
        along = λ from to black edge. absurd (none_black from black);
      } where
        white : (count index : ℕ) → shade_at (replicate count White) index ≡ White
        white zero index = refl
        white (suc count) zero = refl
        white (suc count) (suc index) = white count index

        none_black : (index : ℕ) → shade_at (set (replicate graph.count White) graph.start Grey) index ≡ Black → ⊥
        none_black index black =
            elim (cases_order index graph.start) [
              | inl same ↦
                  (let lt : graph.start < length (replicate graph.count White) =
                  omega (arith, inside, length-replicate graph.count White) in
                  let grey = get_or-set_same (replicate graph.count White) graph.start Grey White lt in
                  grey-black (sym grey ∙ sym (ap (shade_at (set (replicate graph.count White) graph.start Grey)) same) ∙ black))
              | inr (inl lt) ↦ other index (λ e. absurd (omega arith)) black
              | inr (inr gt) ↦ other index (λ e. absurd (omega arith)) black
            ]
          where
            other : (index : ℕ) → (index ≡ graph.start → ⊥)
                → shade_at (set (replicate graph.count White) graph.start Grey) index ≡ Black → ⊥
            other index differs black =
                white-black (sym (get_or-set_other (replicate graph.count White) graph.start index Grey White differs
                ∙ white graph.count index) ∙ black)

        first : marks_of (set (replicate graph.count White) graph.start Grey) ≡ set (replicate graph.count false) graph.start true
        first = map-set has_mark (replicate graph.count White) graph.start Grey
            ∙ ap (λ marks. set marks graph.start true) (marks_of-replicate graph.count)

  -- it holds after a grey object became black
  pub AreLawful-blackened : (object : ℕ) (old new : List Shade) → AreLawful graph old → shade_at old object ≡ Grey
      → Blackens (graph.Edge object) object old new → AreLawful graph new
  AreLawful-blackened object old new lawful grey step =
      record {
        sized = step.sized ∙ lawful.sized;
        has_start = keeps graph.start lawful.has_start;
        sound = λ index marked. elim (step.only index) [
          | inl same ↦ subst (IsReachable graph) (sym same) reached
          | inr (inl same) ↦ lawful.sound index (marked-same new old index (sym same) marked)
          | inr (inr (edge, white, now)) ↦ IsReachable-next graph object index reached edge
        ];
        along = λ from to black edge. elim (step.only from) [
          | inl same ↦ step.targets to (subst (λ (i : ℕ). graph.Edge i to) same edge)
          | inr (inl same) ↦ keeps to (lawful.along from to (sym same ∙ black) edge)
          | inr (inr (other, white, now)) ↦ absurd (grey-black (sym now ∙ black))
        ];
      } where
        reached : IsReachable graph object
        reached = lawful.sound object (marked-by old object Grey grey refl)

        keeps : (index : ℕ) → is_marked (marks_of old) index ≡ true → is_marked (marks_of new) index ≡ true
        keeps index marked =
            elim (step.only index) [
              | inl same ↦ marked-by new index Black (ap (shade_at new) same ∙ step.black) refl
              | inr (inl same) ↦ marked-same old new index same marked
              | inr (inr (edge, white, now)) ↦ marked-by new index Grey now refl
            ]

  -- it holds after a reachable object got a shade that is marked, where black tells that all it has an edge to is marked
  pub AreLawful-set : (object : ℕ) (shade : Shade) (old : List Shade) → AreLawful graph old → object < length old → has_mark shade ≡ true
      → IsReachable graph object → (shade ≡ Black → (to : ℕ) → graph.Edge object to → is_marked (marks_of old) to ≡ true)
      → AreLawful graph (set old object shade)
  AreLawful-set object shade old lawful inside marked reached targets =
      record {
        sized = length-set old object shade ∙ lawful.sized;
        has_start = keeps graph.start lawful.has_start;
        sound = λ index is. elim (cases_eq index object) [
          | inl same ↦ subst (IsReachable graph) (sym same) reached
          | inr differs ↦ lawful.sound index (marked-same (set old object shade) old index (sym (other index differs)) is)
        ];
        along = λ from to black edge. elim (cases_eq from object) [
          | inl same ↦ keeps to
              (targets (sym here ∙ sym (ap (shade_at (set old object shade)) same) ∙ black) to
              (subst (λ (i : ℕ). graph.Edge i to) same edge))
          | inr differs ↦ keeps to (lawful.along from to (sym (other from differs) ∙ black) edge)
        ];
      } where
        here : shade_at (set old object shade) object ≡ shade
        here = get_or-set_same old object shade White inside

        other : (index : ℕ) → index ≢ object → shade_at (set old object shade) index ≡ shade_at old index
        other index differs = get_or-set_other old object index shade White differs

        keeps : (index : ℕ) → is_marked (marks_of old) index ≡ true → is_marked (marks_of (set old object shade)) index ≡ true
        keeps index was =
            elim (cases_eq index object) [
              | inl same ↦ marked-by (set old object shade) index shade (ap (shade_at (set old object shade)) same ∙ here) marked
              | inr differs ↦ marked-same old (set old object shade) index (other index differs) was
            ]

  -- a shade that is marked and not grey is black
  black_or_grey : (shade : Shade) → has_mark shade ≡ true → (shade ≡ Grey → ⊥) → shade ≡ Black
  black_or_grey White marked none = absurd cc
  black_or_grey Grey marked none = absurd (none refl)
  black_or_grey Black marked none = refl

  -- where no object is grey, the marked ones are the reachable ones
  pub MarksReachable-finished : (shades : List Shade) → AreLawful graph shades → ((index : ℕ) → shade_at shades index ≢ Grey)
      → MarksReachable graph (marks_of shades)
  MarksReachable-finished shades lawful none =
      MarksReachable-from_tracing graph (marks_of shades)
      (record {
        sized = length-marks_of shades ∙ lawful.sized;
        has_start = lawful.has_start;
        closed = record {
          along = λ from to marked edge.
              lawful.along from to (black_or_grey (shade_at shades from) (sym (is_marked-shade shades from) ∙ marked) (none from)) edge;
        };
        reached = lawful.sound;
      })

  -- none is grey where none is among the objects
  pub none_grey : (shades : List Shade) (end : ℕ) → length shades ≤ end → ((index : ℕ) → index < end → shade_at shades index ≢ Grey)
      → (index : ℕ) → shade_at shades index ≢ Grey
  none_grey shades end all none index =
      elim (cases_lt index end) [
        | inl lt ↦ none index lt
        | inr ge ↦ λ grey. white-grey (sym (white_beyond shades index (omega arith)) ∙ grey)
      ]
    where
      white_beyond : (shades : List Shade) (index : ℕ) → length shades ≤ index → shade_at shades index ≡ White
      white_beyond [] index le = refl
      white_beyond (shade ∷ shades) zero le = absurd (omega arith)
      white_beyond (shade ∷ shades) (suc index) le = white_beyond shades index (omega arith)
