use Rattle.std.proofs.Common.{refl}
use Rattle.sqz_object.specs.declared.order.Order.TheVariants.{Little}
use Rattle.sqz_test_examples.proofs.WorkedImages.{IsRefused-with_no_special}
use Rattle.sqz_test_examples.proofs.unreadable.free_chunk_at_special.Goals as goal

pub returns : goal.returns
returns c weak = IsRefused-with_no_special _ Little weak refl refl refl
