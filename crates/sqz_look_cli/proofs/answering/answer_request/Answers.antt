use Rattle.std.proofs.Common.{sym, ◌∙◌, inl}
use Rattle.sqz_look_cli.proofs.EndingLemmas.{exit_of_outcome-range, checked_at_one, checked_past, compared_past, each_at_one, each_past, mended_at_zero, objects_asked, objects_past, silent_at_zero, whole_at_zero}
use Rattle.sqz_look_cli.proofs.ComparisonLemmas.{compared_at_one}
use Rattle.sqz_look_files.proofs.WarningLemmas.{IsSilent-then}
use Rattle.sqz_look_cli.proofs.answering.answer_request.Goals as goal

pub returns-clause-exits : goal.returns-clause-exits
returns-clause-exits g c = rw c.finish.ensures.exit (exit_of_outcome-range _ c.outcome_of-outcome.ensures.exits).0

pub returns-clause-accepted : goal.returns-clause-accepted
returns-clause-accepted g c = rw c.finish.ensures.exit (exit_of_outcome-range _ c.outcome_of-outcome.ensures.exits).1

pub returns-clause-ends : goal.returns-clause-ends
returns-clause-ends g c =
    record {
      outcome = c.outcome_of-outcome.result;
      exit_is = c.finish.ensures.exit;
      whole = c.outcome_of-outcome.ensures.whole;
      checked = checked_past _ _ c.args.request.now.question _ _
          (rw (c.clear_if-weak.ensures, c.looks_past.ensures) at c.outcome_of-outcome.ensures.check);
    }

pub returns-clause-check : goal.returns-clause-check
returns-clause-check g c =
    let checked = rw (c.clear_if-weak.ensures, c.looks_past.ensures) at c.outcome_of-outcome.ensures.check in
    checked_at_one _ _ _ c.args.request.now.question c.outcome_of-outcome.result _ c.finish.ensures.exit
    (checked_past _ _ c.args.request.now.question _ _ checked)

pub returns-clause-compared : goal.returns-clause-compared
returns-clause-compared g c =
    let ends = rw (c.clear_if-weak.ensures, c.looks_past.ensures) at c.outcome_of-outcome.ensures.compared in
    compared_at_one _ _ _ c.args.request.now.question c.outcome_of-outcome.result _ c.finish.ensures.exit
    (compared_past _ _ c.args.request.now.question _ _ ends)

pub returns-clause-each : goal.returns-clause-each
returns-clause-each g c =
    let ends = rw (c.clear_if-weak.ensures, c.looks_past.ensures) at c.outcome_of-outcome.ensures.each in
    each_at_one _ _ _ c.args.request.now.question c.outcome_of-outcome.result _ c.finish.ensures.exit
    (each_past _ _ c.args.request.now.question _ _ ends)

pub returns-clause-objects : goal.returns-clause-objects
returns-clause-objects g c =
    let ends = rw (c.clear_if-weak.ensures, c.looks_past.ensures) at c.outcome_of-outcome.ensures.objects in
    objects_asked _ _ _ c.args.request.now.question c.outcome_of-outcome.result _ c.finish.ensures.exit
    (objects_past _ _ c.args.request.now.question _ _ ends)

pub returns-clause-mended : goal.returns-clause-mended
returns-clause-mended g c =
    let mended = rw c.clear_if-weak.ensures at c.outcome_of-outcome.ensures.mended in
    mended_at_zero c.args.request.now.question _ c.outcome_of-outcome.result _ c.finish.ensures.exit mended

pub returns-clause-whole : goal.returns-clause-whole
returns-clause-whole g c =
    λ zero. whole_at_zero _ c.outcome_of-outcome.result c.outcome_of-outcome.ensures.whole (sym c.finish.ensures.exit ∙ zero)

pub returns-clause-silent : goal.returns-clause-silent
returns-clause-silent g c zero =
    let silent = rw (c.clear_if-weak.ensures, c.looks_past.ensures) at c.outcome_of-outcome.ensures.silent in
    IsSilent-then _ _ _ _ _ _
    (silent_at_zero _ c.outcome_of-outcome.result silent (sym c.finish.ensures.exit ∙ zero))
    (inl (c.finish.ensures.silent zero))
