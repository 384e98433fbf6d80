-- Marking with a worklist: what holds between two of its steps, and what that shows at the end.
-- Serves `finishing::finish`, `marking::mark_plain`, `marking::mark_target`,
-- `marking::mark_targets` and `LawLemmas`; `table::MarkTable::close` of `sqz_marks`;
-- `locked_marking::LockedMarking::turn` of `sqz_workers`.
use Rattle.std.proofs.Common.{◌≡◌, ℕ, zero, suc, ◌+◌, ◌<◌, ◌⊎◌, Bool, true, false, List, [], ◌∷◌, ◌++◌, length, set}
use Rattle.std.proofs.Common.{take, drop, refl, sym, ap, subst, ◌∙◌, arith, inl, inr}
use Rattle.std.specs.Prelude.{replicate, Contains}
use Rattle.std.proofs.lemmas.List.Elements.{Contains-push, Contains-push_cases}
use Rattle.std.proofs.lemmas.List.Elements.{Contains-append_left}
use Rattle.std.proofs.lemmas.List.{length-set, length-append, length-replicate, get_or-set_same, take_at}
use Rattle.sqz_trace.specs.Graph.{Graph, IsReachable, is_marked, MarksReachable}
use Rattle.sqz_trace.proofs.ReachabilityLemmas.{IsReachable-next, MarksReachable-from_tracing}
use Rattle.sqz_trace.specs.Marking.{unmarked_count, MarksTargets}

-- ---- marks

-- a mark more is an unmarked object less
unmarked_count-set : (marks : List Bool) (i : ℕ) → i < length marks → is_marked marks i ≡ false
    → unmarked_count (set marks i true) + 1 ≡ unmarked_count marks
unmarked_count-set [] i lt e = absurd (omega arith)
unmarked_count-set (true ∷ marks) zero lt e = absurd cc
unmarked_count-set (false ∷ marks) zero lt e = omega arith
unmarked_count-set (true ∷ marks) (suc i) lt e = unmarked_count-set marks i (omega arith) e
unmarked_count-set (false ∷ marks) (suc i) lt e =
    let rest = unmarked_count-set marks i (omega arith) e in
    omega (arith, rest)

-- what is marked after a mark more was marked before, or got the mark
pub is_marked-set : (marks : List Bool) (i j : ℕ)
    → is_marked (set marks i true) j ≡ true → (j ≡ i) ⊎ (is_marked marks j ≡ true)
is_marked-set [] i j e = inr e
is_marked-set (mark ∷ marks) zero zero e = inl refl
is_marked-set (mark ∷ marks) zero (suc j) e = inr e
is_marked-set (mark ∷ marks) (suc i) zero e = inr e
is_marked-set (mark ∷ marks) (suc i) (suc j) e =
    elim (is_marked-set marks i j e) [
      | inl same ↦ inl (ap suc same)
      | inr marked ↦ inr marked
    ]

-- a mark more takes no mark away
pub is_marked-keeps : (marks : List Bool) (i j : ℕ) → is_marked marks j ≡ true → is_marked (set marks i true) j ≡ true
is_marked-keeps [] i j e = e
is_marked-keeps (mark ∷ marks) zero zero e = refl
is_marked-keeps (mark ∷ marks) zero (suc j) e = e
is_marked-keeps (mark ∷ marks) (suc i) zero e = e
is_marked-keeps (mark ∷ marks) (suc i) (suc j) e = is_marked-keeps marks i j e

-- an object that gets a mark is marked
pub is_marked-added : (marks : List Bool) (i : ℕ) → i < length marks → is_marked (set marks i true) i ≡ true
is_marked-added marks i inside = get_or-set_same marks i true false inside

-- what holds of each marked object holds after a mark more, if it holds of the object that got the mark
pub is_marked-more : (P : ℕ → Type 0) (marks : List Bool) (i : ℕ) → ((j : ℕ) → is_marked marks j ≡ true → P j)
    → P i → (j : ℕ) → is_marked (set marks i true) j ≡ true → P j
is_marked-more P marks i each is j marked =
    elim (is_marked-set marks i j marked) [
      | inl same ↦ subst P (sym same) is
      | inr before ↦ each j before
    ]

is_marked-in_range : (marks : List Bool) (i : ℕ) → is_marked marks i ≡ true → i < length marks
is_marked-in_range [] i e = absurd cc
is_marked-in_range (mark ∷ marks) zero e = omega arith
is_marked-in_range (mark ∷ marks) (suc i) e = let lt = is_marked-in_range marks i e in omega arith

none_marked : (count i : ℕ) → is_marked (replicate count false) i ≡ true → ⊥
none_marked zero i e = cc
none_marked (suc count) zero e = cc
none_marked (suc count) (suc i) e = none_marked count i e

-- ---- the targets of one object

module _ (IsTarget : ℕ → Type 0) (marks : List Bool) (queue : List ℕ) where
  -- nothing is to be done where the targets have their marks
  pub MarksTargets-none : ((index : ℕ) → IsTarget index → is_marked marks index ≡ true)
      → MarksTargets IsTarget marks queue marks queue
  MarksTargets-none have =
      record {
        sized = refl;
        keeps = λ index marked. marked;
        targets = have;
        only = λ index marked. inl marked;
        queued = λ index there. there;
        added = λ index there. inl there;
        measure = refl;
      }

  -- one target without a mark gets it
  pub MarksTargets-one : (found : ℕ) → found < length marks → is_marked marks found ≡ false → IsTarget found
      → ((index : ℕ) → IsTarget index → found ≡ index)
      → MarksTargets IsTarget marks queue (set marks found true) (queue ++ found ∷ [])
  MarksTargets-one found in_range new is_target only_one =
      record {
        sized = length-set marks found true;
        keeps = is_marked-keeps marks found;
        targets = λ index target. marked_at index (only_one index target);
        only = λ index marked. elim (is_marked-set marks found index marked) [
          | inl same ↦
              inr (subst IsTarget (sym same) is_target, subst (Contains (queue ++ found ∷ [])) (sym same) (Contains-push queue found))
          | inr before ↦ inl before
        ];
        queued = λ index. Contains-append_left queue (found ∷ []) index;
        added = λ index there. elim (Contains-push_cases queue found index there) [
          | inl before ↦ inl before
          | inr same ↦ inr (marked_at index same)
        ];
        measure = omega (arith, unmarked_count-set marks found in_range new, length-append queue (found ∷ []));
      } where
        marked_at : (index : ℕ) → found ≡ index → is_marked (set marks found true) index ≡ true
        marked_at index same =
            subst (λ (i : ℕ). is_marked (set marks found true) i ≡ true) same (get_or-set_same marks found true false in_range)

module _ (IsFirst IsSecond IsTarget : ℕ → Type 0)
    (either : (index : ℕ) → IsTarget index → IsFirst index ⊎ IsSecond index)
    (from_first : (index : ℕ) → IsFirst index → IsTarget index)
    (from_second : (index : ℕ) → IsSecond index → IsTarget index) where
  -- some targets are marked, and then the others
  pub MarksTargets-then : (old marks new : List Bool) (queue worklist longer : List ℕ)
      → MarksTargets IsFirst old queue marks worklist
      → MarksTargets IsSecond marks worklist new longer → MarksTargets IsTarget old queue new longer
  MarksTargets-then old marks new queue worklist longer first second =
      record {
        sized = second.sized ∙ first.sized;
        keeps = λ index marked. second.keeps index (first.keeps index marked);
        targets = λ index target. elim (either index target) [
          | inl one ↦ second.keeps index (first.targets index one)
          | inr other ↦ second.targets index other
        ];
        only = λ index marked. elim (second.only index marked) [
          | inl before ↦ elim (first.only index before) [
            | inl old_mark ↦ inl old_mark
            | inr (one, there) ↦ inr (from_first index one, second.queued index there)
          ]
          | inr (other, there) ↦ inr (from_second index other, there)
        ];
        queued = λ index there. second.queued index (first.queued index there);
        added = λ index there. elim (second.added index there) [
          | inl before ↦ elim (first.added index before) [
            | inl old_place ↦ inl old_place
            | inr marked ↦ inr (second.keeps index marked)
          ]
          | inr marked ↦ inr marked
        ];
        measure = second.measure ∙ first.measure;
      }

-- ---- between two steps

-- marked objects are reachable, and all that they have an edge to is marked but for those on the worklist
pub record IsMarking (graph : Graph) (marks : List Bool) (worklist : List ℕ) : Type 0 where
  pub sized : length marks ≡ graph.count
  pub has_start : is_marked marks graph.start ≡ true
  pub sound : (index : ℕ) → is_marked marks index ≡ true → IsReachable graph index
  pub queued : (index : ℕ) → Contains worklist index → is_marked marks index ≡ true
  pub closed : (index : ℕ) → is_marked marks index ≡ true
      → Contains worklist index ⊎ ((next : ℕ) → graph.Edge index next → is_marked marks next ≡ true)

module _ (graph : Graph) (lt : graph.start < graph.count) where
  -- only the start is marked
  abbrev pub first_marks : List Bool
  first_marks = set (replicate graph.count false) graph.start true

  start_marked : is_marked first_marks graph.start ≡ true
  start_marked =
      get_or-set_same (replicate graph.count false) graph.start true false (omega (arith, length-replicate graph.count false))

  start_only : (index : ℕ) → is_marked first_marks index ≡ true → graph.start ≡ index
  start_only index marked =
      elim (is_marked-set (replicate graph.count false) graph.start index marked) [
        | inl same ↦ sym same
        | inr before ↦ absurd (none_marked graph.count index before)
      ]

  -- it is on the worklist
  pub start_there : (index : ℕ) → is_marked first_marks index ≡ true → Contains (graph.start ∷ []) index
  start_there index marked =
      subst (Contains (graph.start ∷ [])) (start_only index marked) (Contains-push [] graph.start)

  -- at first only the start is marked, and on the worklist
  pub IsMarking-start : IsMarking graph first_marks (graph.start ∷ [])
  IsMarking-start =
      record {
        sized = length-set (replicate graph.count false) graph.start true ∙ length-replicate graph.count false;
        has_start = start_marked;
        sound = λ index marked. record { path = []; leads = start_only index marked };
        queued = λ index there. elim (Contains-push_cases [] graph.start index there) [
          | inl none ↦ absurd (omega (arith, none.1))
          | inr same ↦ subst (λ (i : ℕ). is_marked first_marks i ≡ true) same start_marked
        ];
        closed = λ index marked. inl (start_there index marked);
      }

-- then an object is taken from the worklist, and its targets are marked
pub IsMarking-step : (graph : Graph) (object : ℕ) (marks new : List Bool) (rest longer : List ℕ)
    → IsMarking graph marks (rest ++ object ∷ [])
    → MarksTargets (graph.Edge object) marks rest new longer → IsMarking graph new longer
IsMarking-step graph object marks new rest longer marking step =
    record {
      sized = step.sized ∙ marking.sized;
      has_start = step.keeps graph.start marking.has_start;
      sound = λ index marked. elim (step.only index marked) [
        | inl before ↦ marking.sound index before
        | inr (edge, there) ↦ IsReachable-next graph object index taken edge
      ];
      queued = λ index there. elim (step.added index there) [
        | inl before ↦ step.keeps index (marking.queued index (Contains-append_left rest (object ∷ []) index before))
        | inr marked ↦ marked
      ];
      closed = λ index marked. elim (step.only index marked) [
        | inl before ↦ elim (marking.closed index before) [
          | inl queued ↦ elim (Contains-push_cases rest object index queued) [
            | inl there ↦ inl (step.queued index there)
            | inr same ↦ inr (λ next edge. step.targets next (subst (λ (i : ℕ). graph.Edge i next) (sym same) edge))
          ]
          | inr all ↦ inr (λ next edge. step.keeps next (all next edge))
        ]
        | inr (edge, there) ↦ inl there
      ];
    } where
      taken : IsReachable graph object
      taken = marking.sound object (marking.queued object (Contains-push rest object))

-- at the end the worklist is empty, and the marked objects are the reachable ones
pub MarksReachable-from_marking : (graph : Graph) (marks : List Bool)
    → IsMarking graph marks [] → MarksReachable graph marks
MarksReachable-from_marking graph marks marking =
    MarksReachable-from_tracing graph marks
    (record {
      sized = marking.sized;
      has_start = marking.has_start;
      closed = record {
        along = λ from to marked edge. elim (marking.closed from marked) [
          | inl none ↦ absurd (omega (arith, none.1))
          | inr all ↦ all to edge
        ];
      };
      reached = marking.sound;
    })

-- what stands on the worklist is an object
pub IsMarking-inside : (graph : Graph) (marks : List Bool) (worklist : List ℕ) (index : ℕ)
    → IsMarking graph marks worklist
    → Contains worklist index → index < graph.count
IsMarking-inside graph marks worklist index marking there =
    let lt = is_marked-in_range marks index (marking.queued index there) in
    omega (arith, lt, marking.sized)

-- a vector whose whole slice was written
pub whole_slice : {X : Type 0} (count : ℕ) (new old : List X) → length new ≡ length old → count ≡ length old
    → take count (new ++ drop (length new) old) ≡ new
whole_slice count new old same is = take_at new (drop (length new) old) count (sym (is ∙ sym same))
