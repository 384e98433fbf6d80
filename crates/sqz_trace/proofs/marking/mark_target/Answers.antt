use Rattle.std.proofs.Common.{◌≡◌, ℕ, true, false, true≢false, sym, ap, subst, ◌∙◌, arith}
use Rattle.std.proofs.lemmas.List.{map-set, length-map}
use Rattle.std.proofs.lemmas.Option.{same_Some}
use Rattle.sqz_trace.specs.Graph.{is_marked}
use Rattle.sqz_trace.specs.Shades.{has_mark, marks_of}
use Rattle.sqz_trace.proofs.ShadeLemmas.{is_marked-shade}
use Rattle.sqz_trace.proofs.MarkingLemmas.{MarksTargets-none, MarksTargets-one}
use Rattle.sqz_trace.proofs.marking.mark_target.Goals as goal
use Rattle.sqz_trace.proofs.marking.mark_target.Goals.{else-not-has_mark-via-then-not-has_mark+else-not-contains}
use Rattle.sqz_trace.proofs.marking.mark_target.Goals.{else-not-has_mark-via-else-not-has_mark}

pub returns-in_ok-push-clause-marks : goal.returns-in_ok-push-clause-marks
returns-in_ok-push-clause-marks g c =
    let named = sym c.in-Some.ensures.target in
    let size = length-map c.args.shades.now has_mark in
    let new : is_marked (marks_of c.args.shades.now) c.in-Some.found ≡ false =
    is_marked-shade c.args.shades.now c.in-Some.found ∙ sym c.has_mark.ensures ∙ c.if-not-has_mark.true in
    rw (c.in_ok-push.ensures.items, map-set)
    (MarksTargets-one _ (marks_of c.args.shades.now) c.args.worklist.now.items c.in-Some.found
    (omega (arith, size, c.in-Some.ensures.inside, c.requires))
    new (named, sym c.contains.ensures ∙ c.if-not-contains.true) (λ index names. same_Some _ _ (sym named ∙ names.0)))

pub returns-else-not-has_mark-clause-marks : goal.returns-else-not-has_mark-clause-marks
returns-else-not-has_mark-clause-marks g c =
    let set = g.A.Avoided.set c.args.avoided.now in
    let shades = c.args.shades.now in
    let found = c.in-Some.found in
    MarksTargets-none _ (marks_of shades) c.args.worklist.now.items
    (λ index target.
    let same : found ≡ index = same_Some _ _ (c.in-Some.ensures.target ∙ target.0) in
    elim c.else-not-has_mark.branch [
      | else-not-has_mark-via-then-not-has_mark+else-not-contains w ↦
          absurd (true≢false (sym (sym w.contains.ensures ∙ w.if-not-contains.false) ∙ (ap (is_marked set) same ∙ target.1)))
      | else-not-has_mark-via-else-not-has_mark w ↦
          subst (λ (i : ℕ). is_marked (marks_of shades) i ≡ true) same
          (is_marked-shade shades found ∙ sym c.has_mark.ensures ∙ w.if-not-has_mark.false)
    ])
