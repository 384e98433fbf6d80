use Rattle.std.proofs.Common.{◌≡◌, ℕ, [], ◌∷◌, ◌++◌, true≢false, sym, ap, subst, ◌∙◌, arith}
use Rattle.std.proofs.lemmas.Option.{same_Some}
use Rattle.std.proofs.lemmas.List.Elements.{Contains-push}
use Rattle.std.proofs.lemmas.List.{nil_from_length, map-set}
use Rattle.sqz_trace.specs.Reachability.{graph_from}
use Rattle.sqz_trace.specs.Shades.{marks_of}
use Rattle.sqz_trace.proofs.ShadeLemmas.{marks_of-replicate, length-marks_of, same_length}
use Rattle.sqz_trace.proofs.MarkingLemmas.{IsMarking, IsMarking-start, IsMarking-step, IsMarking-inside, start_there}
use Rattle.sqz_trace.proofs.AvoidingLemmas.{without, MarksTargets-edges, MarksReachableWithout-from}
use Rattle.sqz_trace.proofs.MarkingLemmas.{MarksReachable-from_marking, whole_slice}
use Rattle.sqz_trace.specs.Edges.{out_edges, strong_slots}
use Rattle.sqz_trace.specs.Soundness.{IsGood}
use Rattle.sqz_trace.proofs.SoundMarkingLemmas.{IsSeen-start, IsSeen-step, first_fault-seen, defect-good, OnTrue-from}
use Rattle.sqz_trace.proofs.marking.mark_without.Given.{Over}
use Rattle.sqz_trace.proofs.marking.mark_without.Goals as goal
use Rattle.sqz_trace.proofs.marking.mark_without.Goals.{in-Keep, in_default, After-drop-worklist-2}

pub loop-object-init : goal.loop-object-init
loop-object-init g c =
    record {
      marking = λ start is_special.
          let first = c.in_ok-shades.ensures.first in
          let begins : first.start ≡ start = same_Some _ _ (sym first.is_special ∙ is_special) in
          let same : c.special-special.result ≡ start = same_Some _ _ (sym c.special-special.ensures.special ∙ is_special) in
          rw (first.are, c.in_ok-push.ensures.items, c.new-worklist.ensures.items, map-set, marks_of-replicate, begins, same)
          (IsMarking-start (without (graph_from start c.args.graph.heap.now c.args.graph.weak) (g.A.Avoided.set c.args.avoided.now)) (omega (arith, same, c.special-special.ensures.inside)));
      seen =
          let first = c.in_ok-shades.ensures.first in
          let same : c.special-special.result ≡ first.start = same_Some _ _ (sym c.special-special.ensures.special ∙ first.is_special) in
          rw (first.are, c.in_ok-push.ensures.items, c.new-worklist.ensures.items, map-set, marks_of-replicate, same)
          (IsSeen-start c.args.graph.heap.now c.args.graph.weak _ _ c.match-matches.matches
          (λ is. elim c.match-matches.branch [
            | in-Keep w ↦ w.in-Keep.is
            | in_default w ↦ absurd (true≢false (sym is ∙ w.matches-is))
          ])
          (start_there (graph_from first.start c.args.graph.heap.now c.args.graph.weak) (omega (arith, same, c.special-special.ensures.inside))));
    }

pub edges-edges-requires : goal.edges-edges-requires
edges-edges-requires g c =
    IsMarking-inside (without (graph_from c.special-special.result c.args.graph.heap.now c.args.graph.weak) (g.A.Avoided.set c.args.avoided.now))
    (marks_of c.loop-object.shades.items) c.loop-object.worklist.items
    c.in-Some.object (c.loop-object.invariant.marking c.special-special.result c.special-special.ensures.special)
    (rw c.in-Some.ensures.items (Contains-push c.pop.new.self.items c.in-Some.object))

pub mark_targets-requires : goal.mark_targets-requires
mark_targets-requires g c =
    let marking = c.loop-object.invariant.marking c.special-special.result c.special-special.ensures.special in
    rw (c.deref_mut.ensures.value, c.edges-edges.ensures) (sym (length-marks_of c.loop-object.shades.items) ∙ marking.sized)

pub new-marks-requires : goal.new-marks-requires
new-marks-requires g c =
    let marking = c.loop-object.invariant.marking c.special-special.result c.special-special.ensures.special in
    let sized = (c.in_ok-shades.ensures.lawful c.args.graph.weak).lawful.sized in
    omega (arith, c.loop-object.shades.ok.0, length-marks_of c.loop-object.shades.items, marking.sized, sized, c.in_ok-shades.ensures.few)

pub loop-object-preserved : goal.loop-object-preserved
loop-object-preserved g c =
    let memory = c.args.graph.heap.now in
    let marks = marks_of c.loop-object.shades.items in
    let start = c.special-special.result in
    let graph = without (graph_from start memory c.args.graph.weak) (g.A.Avoided.set c.args.avoided.now) in
    let marking = rw c.in-Some.ensures.items at (c.loop-object.invariant.marking start c.special-special.ensures.special) in
    let inside =
    IsMarking-inside graph marks (c.pop.new.self.items ++ c.in-Some.object ∷ []) c.in-Some.object marking
    (Contains-push c.pop.new.self.items c.in-Some.object) in
    let step =
    MarksTargets-edges (g.A.Avoided.set c.args.avoided.now) memory c.args.graph.weak c.in-Some.object c.edges-edges.result c.edges-edges.ensures inside _ _ _ _
    (rw c.deref_mut.ensures.value at c.in_ok-is_sound.ensures.marks) in
    let size = same_length c.mark_targets.new.shades c.loop-object.shades.items step.sized in
    rw (whole_slice c.loop-object.shades.len c.mark_targets.new.shades c.loop-object.shades.items size c.loop-object.shades.ok.0)
    (record {
      marking = λ start is_special.
          let same : c.special-special.result ≡ start = same_Some _ _ (sym c.special-special.ensures.special ∙ is_special) in
          subst (λ (i : ℕ). IsMarking (without (graph_from i memory c.args.graph.weak) (g.A.Avoided.set c.args.avoided.now))
          (marks_of c.mark_targets.new.shades) c.mark_targets.new.worklist.items) same
          (IsMarking-step graph c.in-Some.object marks
          (marks_of c.mark_targets.new.shades) c.pop.new.self.items c.mark_targets.new.worklist.items marking step);
      seen = IsSeen-step memory c.args.graph.weak _ c.in-Some.object marks (marks_of c.mark_targets.new.shades)
          c.pop.new.self.items c.mark_targets.new.worklist.items _ _ (rw c.in-Some.ensures.items at c.loop-object.invariant.seen) step
          (λ keeps good.
          defect-good memory c.in-Some.object c.edges-edges.result
          (c.edges-edges.ensures ∙ ap (λ weak. out_edges memory weak c.in-Some.object) keeps)
          (OnTrue-from (IsGood c.edges-edges.result (strong_slots c.edges-edges.result)) _ c.in_ok-is_sound.ensures.good good));
    })

-- the worklist is empty
none_left : (g : Over) (c : After-drop-worklist-2 g) → c.loop-object.worklist.items ≡ []
none_left g c = nil_from_length c.loop-object.worklist.items (omega (arith, c.in_default-pop.ensures.cases.0, c.loop-object.worklist.ok.0))

pub returns-clause-marks : goal.returns-clause-marks
returns-clause-marks g c =
    let graph = graph_from c.special-special.result c.args.graph.heap.now c.args.graph.weak in
    let set = g.A.Avoided.set c.args.avoided.now in
    let none = none_left g c in
    rw c.new-marks.ensures
    (record {
      start = c.special-special.result;
      is_special = c.special-special.ensures.special;
      reached = MarksReachableWithout-from graph set (marks_of c.loop-object.shades.items)
          (sym c.contains.ensures ∙ c.if-contains.false)
          (MarksReachable-from_marking (without graph set) (marks_of c.loop-object.shades.items)
          (rw none at (c.loop-object.invariant.marking c.special-special.result c.special-special.ensures.special)));
    })

pub returns-clause-sound : goal.returns-clause-sound
returns-clause-sound g c =
    let marking = c.loop-object.invariant.marking c.special-special.result c.special-special.ensures.special in
    let none = none_left g c in
    rw c.new-marks.ensures
    (first_fault-seen c.args.graph.heap.now c.args.graph.weak (marks_of c.loop-object.shades.items) c.loop-object.is_sound
    marking.sized (rw none at c.loop-object.invariant.seen))
