use Rattle.std.proofs.Common.{[], ◌∷◌, refl}
use Rattle.sqz_object.specs.declared.order.Order.TheVariants.{Little}
use Rattle.sqz_object.specs.declared.chunk.ChunkFault.TheVariants.{ZeroSize}
use Rattle.sqz_test_examples.proofs.WorkedImages.{IsRefused-at_chunk}
use Rattle.sqz_test_examples.proofs.unreadable.zero_size.Goals as goal

pub returns : goal.returns
returns c weak =
    IsRefused-at_chunk weak _ Little ((0x1007 ∷ []) ∷ []) 0x3203 [] ZeroSize refl refl refl
