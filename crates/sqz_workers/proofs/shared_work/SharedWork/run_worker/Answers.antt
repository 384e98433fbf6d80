use Rattle.std.proofs.Common.{◌≡◌, ◌+◌, refl, sym, ap, subst, ◌∙◌, arith}
use Rattle.std.specs.Prelude.{unwrap_or}
use Rattle.sqz_workers.specs.declared.turns.Turns.{Turns}
use Rattle.sqz_workers.specs.Gains.{HasGained}
use Rattle.sqz_workers.proofs.GainLemmas.{HasGained-then}
use Rattle.sqz_workers.proofs.shared_work.SharedWork.run_worker.Goals as goal

pub loop-turn-preserved : goal.loop-turn-preserved
loop-turn-preserved g c =
    let before = c.loop-turn in let scan = c.scan_if_grey in let left = c.in-Some.ensures.limits.0 refl in
    let more : c.from-won.result ≡ unwrap_or scan.result 0 = c.from-won.ensures ∙ c.unwrap_or-more.ensures in
    let begun = ap (λ (turns : Turns). turns.turn) c.note-in-Some.ensures ∙ ap (λ (turns : Turns). turns.turn) c.in-Some.ensures.begun in
    let most = ap (λ (turns : Turns). turns.most) c.note-in-Some.ensures ∙ ap (λ (turns : Turns). turns.most) c.in-Some.ensures.begun in
    record {
      gained =
          subst (λ objects. HasGained c.args.pass.now scan.new.pass (before.won + objects)) (sym more)
          (HasGained-then c.args.pass.now before.pass scan.new.pass before.won (unwrap_or scan.result 0) before.invariant.gained
          scan.ensures.gained);
      few = omega (arith, before.invariant.few, scan.ensures.few, more, begun);
      most = omega (arith, before.invariant.most, most);
      begun = omega (arith, left.0, begun, most);
    }
