use Rattle.std.proofs.Common.{◌≡◌}
use Rattle.sqz_look_files.specs.Failures.{IsAnswerExit}
use Rattle.sqz_look_files.specs.Verdicts.{IsWorst}
use Rattle.sqz_look_files.specs.Warnings.{IsSilent}
use Rattle.sqz_look_cli.specs.Each.{IsAnswered}
use Rattle.sqz_look_cli.proofs.each.answer_each.Given as goal

abbrev pub invariant-loop-path : goal.invariant-loop-path
invariant-loop-path g l =
    record {
      exits : IsAnswerExit l.exit;
      answered : IsWorst (IsAnswered g.T.File.Read.remaining l.session.weak l.session.past_damage) l.path-index l.exit;
      silent : l.exit ≡ 0 → IsSilent g.T.File.Read.remaining l.session.weak l.session.past_damage l.initial.err l.err;
    }
