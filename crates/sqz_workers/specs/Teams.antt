-- Workers that mark at the same time.
use Rattle.std.specs.Prelude.{◌≡◌, ◌+◌, ◌≤◌, length, sum}
use Rattle.sqz_marks.specs.Table.{SharedMarks, IsPassOf}
use Rattle.sqz_workers.specs.declared.team.Team.{Team}
use Rattle.sqz_workers.specs.Gains.{HasGained}

-- a team has at least one worker; its pass belongs to this table, each share of the pass has a
-- deque and an entry for a number, and the workers' numbers are below 64
pub record IsTeamOf (marks : SharedMarks) (team : Team) : Type 0 where
  pub of : IsPassOf marks team.pass.now
  pub shares : team.pass.now.view.weight ≡ length team.won.now
  pub deques : length team.deques.now ≡ length team.won.now
  pub some : 1 ≤ length team.won.now
  pub numbers : team.first + length team.won.now ≤ 64

-- the same team: its pass has gained as many objects as its numbers add up to
pub record HasMarked (old new : Team) : Type 0 where
  pub gained : HasGained old.pass.now new.pass.now (sum new.won.now)
  pub sized : length new.won.now ≡ length old.won.now
  pub same_pass : new.pass.ghost_name ≡ old.pass.ghost_name
  pub same_won : new.won.ghost_name ≡ old.won.ghost_name
