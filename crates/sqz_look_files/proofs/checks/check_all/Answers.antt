use Rattle.std.proofs.Common.{◌≡◌, ◌∙◌, length, max, refl, arith, rules}
use Rattle.sqz_look_files.proofs.CheckLemmas.{IsWorst-none, IsWorst-more}
use Rattle.sqz_look_files.proofs.checks.check_all.Goals as goal

pub loop-path-init : goal.loop-path-init
loop-path-init g c = (IsWorst-none _, λ zero. refl)

pub loop-path-preserved : goal.loop-path-preserved
loop-path-preserved g c =
    let so_far = c.loop-path.invariant in
    let one = c.in_ok-check_next in
    let worst : c.max-exit.result ≡ max c.loop-path.exit one.field-0 = search rules in
    rw worst (
      IsWorst-more _ _ _ _ so_far.0 one.ensures.checked,
      λ zero. one.ensures.silent (omega arith) ∙ so_far.1 (omega arith),
    )

pub returns-clause-checked : goal.returns-clause-checked
returns-clause-checked g c =
    let all : c.loop-path.path-index ≡ length c.args.paths.now = omega arith in
    rw (← all) c.loop-path.invariant.0

pub returns-clause-silent : goal.returns-clause-silent
returns-clause-silent g c = c.loop-path.invariant.1
