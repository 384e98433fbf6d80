use Rattle.std.proofs.Common.{◌+◌, ◌-◌, ◌*◌, length}
use Rattle.sqz_workers.proofs.shared_work.+teams.Given as goal

abbrev pub decreases-SharedWork::run_team : goal.decreases-SharedWork::run_team
decreases-SharedWork::run_team g l = 4 * length l.team.now.won.now

abbrev pub decreases-SharedWork::run_halves : goal.decreases-SharedWork::run_halves
decreases-SharedWork::run_halves g l = 4 * length l.team.now.won.now - 1

abbrev pub decreases-SharedWork::run_both : goal.decreases-SharedWork::run_both
decreases-SharedWork::run_both g l = 4 * (length l.team.now.won.now + length l.other.now.won.now) - 2

abbrev pub decreases-SharedWork::run_both-front : goal.decreases-SharedWork::run_both-front
decreases-SharedWork::run_both-front g l = 4 * length l.team.now.won.now + 1

abbrev pub decreases-SharedWork::run_both-back : goal.decreases-SharedWork::run_both-back
decreases-SharedWork::run_both-back g l = 4 * length l.other.now.won.now + 1
