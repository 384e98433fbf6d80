use Rattle.std.proofs.Common.{[], ◌∷◌, refl}
use Rattle.sqz_object.specs.declared.order.Order.TheVariants.{Little}
use Rattle.sqz_object.specs.declared.chunk.ChunkFault.TheVariants.{ZeroSize}
use Rattle.sqz_test_examples.proofs.WorkedImages.{IsRefused-at_chunk}
use Rattle.sqz_test_examples.proofs.prefixes.first_unreadable_chunk.Goals as goal

pub returns : goal.returns
returns c weak =
    IsRefused-at_chunk weak _ Little ((0x1007 ∷ []) ∷ (0x320F ∷ 1 ∷ 1 ∷ []) ∷ []) 0x3203 (0x320F ∷ []) ZeroSize
    refl refl refl
