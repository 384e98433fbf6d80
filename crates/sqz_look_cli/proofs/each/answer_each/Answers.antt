use Rattle.std.proofs.Common.{◌≡◌, length, max, refl, inl, arith, rules}
use Rattle.sqz_look_files.proofs.CheckLemmas.{IsAnswerExit-max, IsWorst-none, IsWorst-more}
use Rattle.sqz_look_files.proofs.WarningLemmas.{IsSilent-then}
use Rattle.sqz_look_cli.proofs.each.answer_each.Goals as goal

pub loop-path-init : goal.loop-path-init
loop-path-init g c = record { exits = (omega arith, λ two. omega arith); answered = IsWorst-none _; silent = λ zero. inl refl }

pub loop-path-preserved : goal.loop-path-preserved
loop-path-preserved g c =
    let so_far = c.loop-path.invariant in
    let one = c.in_ok-answer_one in
    let worst : c.max-exit.result ≡ max c.loop-path.exit one.field-0 = search rules in
    rw worst (record {
      exits = IsAnswerExit-max _ _ so_far.exits one.ensures.exits;
      answered = IsWorst-more _ _ _ _ so_far.answered one.ensures.answered;
      silent = λ zero. IsSilent-then _ _ _ _ _ _ (so_far.silent (omega arith)) (one.ensures.silent (omega arith));
    })

pub returns-clause-exits : goal.returns-clause-exits
returns-clause-exits g c = c.loop-path.invariant.exits

pub returns-clause-answered : goal.returns-clause-answered
returns-clause-answered g c =
    let all : c.loop-path.path-index ≡ length c.args.paths.now = omega arith in
    rw (← all) c.loop-path.invariant.answered

pub returns-clause-silent : goal.returns-clause-silent
returns-clause-silent g c = c.loop-path.invariant.silent
