use Rattle.std.proofs.Common.{sym, ◌∙◌, true≢false}
use Rattle.sqz_answers.proofs.objects.shown_object.Goals as goal
use Rattle.sqz_answers.proofs.objects.shown_object.Goals.{then-has+in_ok-retained_alone, else-has}

pub returns-clause-live : goal.returns-clause-live
returns-clause-live c marked =
    elim c.if-has.branch [
      | then-has+in_ok-retained_alone w ↦
          record {
            bytes = w.in_ok-retained_alone.field-0;
            is = w.retained-is;
            alone = w.in_ok-retained_alone.ensures;
          }
      | else-has w ↦ absurd (true≢false (sym marked ∙ sym c.has.ensures ∙ w.if-has.false))
    ]
