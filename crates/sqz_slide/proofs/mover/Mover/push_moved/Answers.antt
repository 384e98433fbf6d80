use Rattle.std.proofs.Common.{arith}
use Rattle.std.proofs.lemmas.Grind.{common_steps}
use Rattle.sqz_slide.proofs.mover.Mover.push_moved.Goals as goal

pub returns-in_ok-push_weak : goal.returns-in_ok-push_weak
returns-in_ok-push_weak c = grind (arith, common_steps)

pub returns-in_ok-push_untraced : goal.returns-in_ok-push_untraced
returns-in_ok-push_untraced c = grind (arith, common_steps)
