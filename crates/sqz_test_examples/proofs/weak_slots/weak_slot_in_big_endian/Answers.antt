use Rattle.std.proofs.Common.{refl}
use Rattle.sqz_object.specs.declared.order.Order.TheVariants.{Big}
use Rattle.sqz_trace.specs.declared.weak.Weak.TheVariants.{Clear}
use Rattle.sqz_test_examples.proofs.WorkedImages.{CompactsTo-computed, paths_by_strong_slots}
use Rattle.sqz_test_examples.proofs.weak_slots.weak_slot_in_big_endian.Goals as goal

pub returns : goal.returns
returns c = CompactsTo-computed Clear _ Big _ paths_by_strong_slots refl refl refl refl refl refl
