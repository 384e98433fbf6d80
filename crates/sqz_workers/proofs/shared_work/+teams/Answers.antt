use Rattle.std.proofs.Common.{◌≡◌, ◌/◌, length, sum, rules, refl, sym, subst, arith}
use Rattle.std.proofs.Math.ListN.{length-set}
use Rattle.std.proofs.lemmas.List.{length-append}
use Rattle.sqz_marks.specs.Core.{joined}
use Rattle.sqz_marks.specs.Table.{knowing}
use Rattle.sqz_workers.specs.Gains.{HasGained}
use Rattle.sqz_workers.proofs.ShareLemmas.{sum-one, HasGained-joined, HasGained-halves, knowing-joined_same}
use Rattle.sqz_workers.proofs.shared_work.+teams.Goals as goal

pub SharedWork::run_team-returns-then-weight-eq1 : goal.SharedWork::run_team-returns-then-weight-eq1
SharedWork::run_team-returns-then-weight-eq1 g t c =
    let team = c.args.team.now in
    let one : length team.won.now ≡ 1 = omega (arith, c.requires.shares, c.weight.ensures.weight, c.if-weight-eq1.true) in
    record {
      gained =
          subst (λ objects. HasGained team.pass.now c.run_worker.new.pass objects)
          (sym (sum-one team.won.now c.run_worker.result one)) c.run_worker.ensures;
      sized = length-set team.won.now 0 c.run_worker.result;
      same_pass = refl;
      same_won = refl;
    }

pub SharedWork::run_halves-returns : goal.SharedWork::run_halves-returns
SharedWork::run_halves-returns g t c =
    let old = c.args.team.now.pass.now in let new = c.join_into.new.pass in let split = c.split_off-part in
    let low = c.run_both.new.team in let high = c.run_both.new.other in let marked = c.run_both.ensures in
    let is_new : new ≡ knowing low.pass.now (joined low.pass.now.view high.pass.now.view) =
    search (rules, knowing-joined_same) in
    record {
      gained =
          HasGained-halves old new c.low_won-1.given.0 c.high_won-1.given.0 low.won.now high.won.now (search rules) (search rules)
          (HasGained-joined old split.new.pass split.result low.pass.now high.pass.now new (c.weight-shares.result / 2) (sum low.won.now)
          (sum high.won.now) (omega (arith, c.weight-shares.ensures.weight)) split.ensures.kept split.ensures.part marked.team.gained
          marked.other.gained is_new);
      sized = simp length-append (omega arith);
      same_pass = refl;
      same_won = refl;
    }

pub SharedWork::run_both-returns-clause-team : goal.SharedWork::run_both-returns-clause-team
SharedWork::run_both-returns-clause-team g t c = search rules

pub SharedWork::run_both-returns-clause-other : goal.SharedWork::run_both-returns-clause-other
SharedWork::run_both-returns-clause-other g t c = search rules
