use Rattle.std.proofs.Common.{refl}
use Rattle.sqz_object.specs.declared.order.Order.TheVariants.{Little}
use Rattle.sqz_trace.specs.declared.weak.Weak.TheVariants.{Keep}
use Rattle.sqz_test_examples.proofs.WorkedImages.{IsRefused-for_defect, paths_by_stack}
use Rattle.sqz_test_examples.proofs.defects.stack_to_end.Goals as goal

pub returns : goal.returns
returns c = IsRefused-for_defect Keep _ Little _ paths_by_stack refl refl refl refl refl
