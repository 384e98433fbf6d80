use Rattle.std.proofs.Common.{rules}
use Rattle.sqz_slide.proofs.mover.Mover.moved_field.Goals as goal

pub returns-in-Some-place-clause-moved : goal.returns-in-Some-place-clause-moved
returns-in-Some-place-clause-moved c = search rules
