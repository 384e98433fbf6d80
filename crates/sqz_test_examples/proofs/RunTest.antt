-- Whether events of passes over an object memory are a legal run, by a test that computes.
-- Serves `marking::one_pass` and `marking::two_passes`.
use Rattle.std.proofs.Common.{◌≡◌, ◌≢◌, ℕ, Bool, true, ◌&&◌, not, eqb, ltb, leb, List, [], ◌∷◌, length, refl}
use Rattle.std.proofs.Common.{eq-eqb}
use Rattle.std.proofs.lemmas.Bool.{ltb-true, leb-true, eqb-true, and_parts}
use Rattle.sqz_image.specs.Objects.{object_count, chunk_words}
use Rattle.sqz_trace.specs.declared.weak.Weak.{Weak}
use Rattle.sqz_regions.specs.Regions.{Regioning}
use Rattle.sqz_marks.specs.declared.view.View.{View}
use Rattle.sqz_marks.specs.Core.{State, Event, Look, Claim, Count, Blacken, Split, Join, Meets, LeadsTo, IsLegalRun}
use Rattle.sqz_marks.specs.Core.{marking_of, opening, after, pass_at, times}
use Rattle.sqz_test_examples.proofs.TracingTest.{has_edge, has_edge-true, all_named_pass, targets_pass}

abbrev pub has_seen : View → ℕ → Bool
has_seen view object = ltb 0 (times object view.seen)

-- numbers that a test finds to differ do so
differ : (a b : ℕ) → not (eqb a b) ≡ true → a ≢ b
differ a b h e = let wrong = rw (eq-eqb a b e) at h in absurd cc

module _ (heap : Regioning) (weak : Weak) (workers start : ℕ) where
  -- whether the condition of an event of a pass is met
  abbrev pub is_met : State → ℕ → Event → Bool
  is_met state pass (Look object) = leb 1 (pass_at state.passes pass).weight && ltb object (object_count heap.memory)
  is_met state pass (Claim parent object) =
      has_seen (pass_at state.passes pass) parent && (ltb object (object_count heap.memory) && has_edge heap.memory weak parent object)
  is_met state pass (Count object) =
      ltb 0 (times object (pass_at state.passes pass).won) && eqb (times object (pass_at state.passes pass).counted) 0
  is_met state pass (Blacken object) =
      let view : View = pass_at state.passes pass in
      has_seen view object
      && (ltb object (object_count heap.memory) && all_named_pass heap.memory weak (has_seen view) (chunk_words heap.memory object))
  is_met state pass (Split weight) = leb 1 weight && ltb weight (pass_at state.passes pass).weight
  is_met state pass (Join other) =
      not (eqb other pass) && (ltb other (length state.passes) && leb 1 (pass_at state.passes other).weight)

  is_met-true : (state : State) (pass : ℕ) (event : Event) → is_met state pass event ≡ true
      → Meets (marking_of heap weak workers start) state pass event
  is_met-true state pass (Look object) h =
      let parts = and_parts (leb 1 (pass_at state.passes pass).weight) (ltb object (object_count heap.memory)) h in
      (leb-true _ _ parts.0, ltb-true _ _ parts.1)
  is_met-true state pass (Claim parent object) h =
      let edge : Bool = has_edge heap.memory weak parent object in
      let a = and_parts (has_seen (pass_at state.passes pass) parent) (ltb object (object_count heap.memory) && edge) h in
      let b = and_parts (ltb object (object_count heap.memory)) edge a.1 in
      (ltb-true _ _ a.0, ltb-true _ _ b.0, has_edge-true heap.memory weak parent object b.1)
  is_met-true state pass (Count object) h =
      let view : View = pass_at state.passes pass in
      let parts = and_parts (ltb 0 (times object view.won)) (eqb (times object view.counted) 0) h in
      (ltb-true _ _ parts.0, eqb-true _ _ parts.1)
  is_met-true state pass (Blacken object) h =
      let view : View = pass_at state.passes pass in
      let seen : Bool = all_named_pass heap.memory weak (has_seen view) (chunk_words heap.memory object) in
      let a = and_parts (has_seen view object) (ltb object (object_count heap.memory) && seen) h in
      let b = and_parts (ltb object (object_count heap.memory)) seen a.1 in (
        ltb-true _ _ a.0,
        ltb-true _ _ b.0,
        λ target edge. ltb-true _ _ (targets_pass heap.memory weak (has_seen view) object target b.1 edge),
      )
  is_met-true state pass (Split weight) h =
      let parts = and_parts (leb 1 weight) (ltb weight (pass_at state.passes pass).weight) h in
      (leb-true _ _ parts.0, ltb-true _ _ parts.1)
  is_met-true state pass (Join other) h =
      let weighs : Bool = leb 1 (pass_at state.passes other).weight in
      let a = and_parts (not (eqb other pass)) (ltb other (length state.passes) && weighs) h in
      let b = and_parts (ltb other (length state.passes)) weighs a.1 in
      (differ other pass a.0, ltb-true _ _ b.0, leb-true _ _ b.1)

  -- whether each event of a run is one of the passes, with its condition met
  abbrev pub is_legal : State → List (ℕ × Event) → Bool
  is_legal state [] = true
  is_legal state ((pass, event) ∷ run) =
      ltb pass (length state.passes)
      && (is_met state pass event && is_legal (after (marking_of heap weak workers start) state pass event) run)

  -- the state in which a run ends
  abbrev pub last_state : State → List (ℕ × Event) → State
  last_state state [] = state
  last_state state ((pass, event) ∷ run) = last_state (after (marking_of heap weak workers start) state pass event) run

  LeadsTo-computed : (state : State) (run : List (ℕ × Event)) → is_legal state run ≡ true
      → LeadsTo (marking_of heap weak workers start) state run (last_state state run)
  LeadsTo-computed state [] h = refl
  LeadsTo-computed state ((pass, event) ∷ run) h =
      let next : State = after (marking_of heap weak workers start) state pass event in
      let rest : Bool = is_legal next run in
      let a = and_parts (ltb pass (length state.passes)) (is_met state pass event && rest) h in
      let b = and_parts (is_met state pass event) rest a.1 in
      (ltb-true _ _ a.0, is_met-true state pass event b.0, LeadsTo-computed next run b.1)

  -- a run that passes leads from the opening to the state that is computed
  pub IsLegalRun-computed : (run : List (ℕ × Event)) → is_legal (opening (marking_of heap weak workers start)) run ≡ true
      → IsLegalRun (marking_of heap weak workers start) run (last_state (opening (marking_of heap weak workers start)) run)
  IsLegalRun-computed run h = LeadsTo-computed (opening (marking_of heap weak workers start)) run h
