use Rattle.std.proofs.lemmas.Result.{IfOk-weaker}
use Rattle.sqz_alike.specs.Seen.{seen}
use Rattle.sqz_look_cli.proofs.ComparisonLemmas.{HasFault-then, IfOk-always}
use Rattle.sqz_look_cli.proofs.comparison.print_changes.Goals as goal

pub returns-clause-alike : goal.returns-clause-alike
returns-clause-alike g c =
    IfOk-weaker c.print_diff.result _ _
    (λ is_alike alike. record {
      old = seen c.in_ok-old.old.live;
      new = seen c.in_ok-new.new.live;
      old_is = c.in_ok-old.ensures.seen;
      new_is = c.in_ok-new.ensures.seen;
      alike = alike;
    })
    c.print_diff.ensures

pub returns-clause-silent : goal.returns-clause-silent
returns-clause-silent g c =
    IfOk-always _ c.print_diff.result
    (HasFault-then _ _ _ _ _ _ c.in_ok-old.ensures.silent c.in_ok-new.ensures.silent)
