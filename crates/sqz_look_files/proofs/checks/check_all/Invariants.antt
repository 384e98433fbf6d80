use Rattle.std.proofs.Common.{◌≡◌}
use Rattle.sqz_look_files.specs.Verdicts.{AreChecked}
use Rattle.sqz_look_files.proofs.checks.check_all.Given as goal

abbrev pub invariant-loop-path : goal.invariant-loop-path
invariant-loop-path g l =
    AreChecked g.T.File.Read.remaining l.session.weak l.session.past_damage l.options.strict l.path-index l.exit
    × (l.exit ≡ 0 → l.err ≡ l.initial.err)
