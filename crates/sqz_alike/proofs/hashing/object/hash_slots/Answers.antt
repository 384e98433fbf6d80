use Rattle.std.proofs.Common.{List, ◌∷◌, sym, subst}
use Rattle.sqz_image.specs.declared.slot.Slot.{Slot}
use Rattle.sqz_image.specs.declared.slot.Slot.TheVariants.{ClassWord}
use Rattle.sqz_trace.proofs.SlotLemmas.{fields-push}
use Rattle.sqz_alike.specs.Seen.{seen}
use Rattle.sqz_alike.specs.Hashing.{HashesSlots}
use Rattle.sqz_alike.proofs.HashingLemmas.{HashesSlots-then}
use Rattle.sqz_alike.proofs.hashing.object.hash_slots.Goals as goal

pub loop-index-preserved : goal.loop-index-preserved
loop-index-preserved c =
    let field = c.in_ok-hash_slot-2.ensures in
    record {
      walk = field.walk;
      slots =
          subst
          (λ (slots : List Slot). HashesSlots (seen c.args.live.now) c.args.object (ClassWord ∷ slots) c.args.walk.now.found.items c.hash_slot-in-loop-index.new.walk.found.items c.args.hasher.now c.hash_slot-in-loop-index.new.hasher)
          (sym (fields-push c.loop-index.index))
          (HashesSlots-then (seen c.args.live.now) c.args.object c.loop-index.invariant.slots field.hashed);
    }
