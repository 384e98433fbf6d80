use Rattle.std.proofs.Common.{refl}
use Rattle.sqz_object.specs.declared.order.Order.TheVariants.{Little}
use Rattle.sqz_trace.specs.declared.weak.Weak.TheVariants.{Clear}
use Rattle.sqz_test_examples.proofs.WorkedImages.{CompactsTo-computed, paths_by_strong_slots}
use Rattle.sqz_test_examples.proofs.weak_slots.weak_slot.Goals as goal

pub returns : goal.returns
returns c = CompactsTo-computed Clear _ Little _ paths_by_strong_slots refl refl refl refl refl refl
