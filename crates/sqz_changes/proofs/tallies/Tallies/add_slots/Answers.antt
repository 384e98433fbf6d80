use Rattle.std.proofs.Common.{◌∙◌, ap, arith}
use Rattle.sqz_image.specs.declared.slot.Slot.TheVariants.{Field}
use Rattle.sqz_changes.specs.declared.place.Place.TheVariants.{Slot as At}
use Rattle.sqz_changes.specs.Compared.{compared}
use Rattle.sqz_changes.specs.Tallies.{tallied, with_place_of}
use Rattle.sqz_changes.proofs.TalliesLemmas.{slots-more}
use Rattle.sqz_changes.proofs.tallies.Tallies.add_slots.Goals as goal

pub loop-index-preserved : goal.loop-index-preserved
loop-index-preserved c =
    let all = compared c.args.comparison.now in
    record {
      are = c.in_ok-add-2.ensures.tallied
          ∙ ap (with_place_of all c.args.owner (record { pair = c.args.pair; place = At (Field c.loop-index.index) })) c.loop-index.invariant.are
          ∙ slots-more all c.args.owner c.args.pair c.loop-index.index (tallied c.args.self.now);
      tallies = c.in_ok-add-2.ensures.tallies;
      few = omega (arith, c.in_ok-add-2.ensures.few, c.loop-index.invariant.few);
    }
