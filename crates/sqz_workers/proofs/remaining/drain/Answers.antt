use Rattle.std.proofs.Common.{refl, ◌∙◌}
use Rattle.std.specs.Prelude.{unwrap_or}
use Rattle.sqz_workers.proofs.GainLemmas.{HasGained-none, HasGainedSome-of, HasGainedSome-then, IsPassOf-gained}
use Rattle.sqz_workers.proofs.remaining.drain.Goals as goal

pub loop-init : goal.loop-init
loop-init c = record { gained = HasGainedSome-of c.args.pass.now c.args.pass.now 0 (HasGained-none c.args.pass.now); room = refl }

pub scan_if_grey-requires : goal.scan_if_grey-requires
scan_if_grey-requires c =
    let before = c.loop.invariant.gained in
    record { of = IsPassOf-gained c.args.table.now c.args.pass.now c.loop.pass before.objects c.requires.of before.gained }

pub loop-preserved : goal.loop-preserved
loop-preserved c =
    record {
      gained = HasGainedSome-then c.args.pass.now c.loop.pass c.scan_if_grey.new.pass c.loop.invariant.gained
          (HasGainedSome-of c.loop.pass c.scan_if_grey.new.pass (unwrap_or c.scan_if_grey.result 0) c.scan_if_grey.ensures.gained);
      room = c.scan_if_grey.ensures.room ∙ c.pop.ensures.capacity ∙ c.loop.invariant.room;
    }
