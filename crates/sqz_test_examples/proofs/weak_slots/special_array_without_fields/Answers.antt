use Rattle.std.proofs.Common.{refl}
use Rattle.sqz_object.specs.declared.order.Order.TheVariants.{Little}
use Rattle.sqz_trace.specs.declared.weak.Weak.TheVariants.{Clear}
use Rattle.sqz_test_examples.proofs.WorkedImages.{IsRefused-without_nil}
use Rattle.sqz_test_examples.proofs.weak_slots.special_array_without_fields.Goals as goal

pub returns : goal.returns
returns c = IsRefused-without_nil _ Little Clear refl refl refl refl
