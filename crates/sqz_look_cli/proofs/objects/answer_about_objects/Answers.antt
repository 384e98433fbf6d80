use Rattle.std.proofs.lemmas.Result.{IfOk-weaker}
use Rattle.sqz_alike.specs.Seen.{seen}
use Rattle.sqz_look_cli.proofs.ObjectLemmas.{EndsObjects-each}
use Rattle.sqz_look_cli.proofs.objects.answer_about_objects.Goals as goal

pub returns-clause-objects : goal.returns-clause-objects
returns-clause-objects g c =
    let each = c.answer_about_each.ensures in
    EndsObjects-each _ _ _ _ _ c.in_ok-inspector.ensures.seen c.answer_about_each.result each.there each.absent each.failed

pub returns-clause-silent : goal.returns-clause-silent
returns-clause-silent g c =
    IfOk-weaker c.answer_about_each.result _ _ (λ exit same zero. rw (same zero) c.in_ok-inspector.ensures.silent)
    c.answer_about_each.ensures.silent
