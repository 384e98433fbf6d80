use Rattle.std.proofs.Common.{[], ◌∷◌, refl}
use Rattle.sqz_object.specs.declared.order.Order.TheVariants.{Little}
use Rattle.sqz_object.specs.declared.chunk.ChunkFault.TheVariants.{Overrun}
use Rattle.sqz_test_examples.proofs.WorkedImages.{IsRefused-at_chunk}
use Rattle.sqz_test_examples.proofs.unreadable.header_overrun.Goals as goal

pub returns : goal.returns
returns c weak =
    IsRefused-at_chunk weak _ Little ((0x1007 ∷ []) ∷ []) 8 (0x1000 ∷ []) Overrun refl refl refl
