use Rattle.std.proofs.Common.{refl, ◌∙◌}
use Rattle.sqz_image.specs.Objects.{object_count}
use Rattle.sqz_workers.proofs.GainLemmas.{HasGained-none, HasGainedSome-of, HasGainedSome-then}
use Rattle.sqz_workers.proofs.RemainingLemmas.{unblackened-lt}
use Rattle.sqz_workers.proofs.remaining.scan_remaining.Goals as goal

pub loop-init : goal.loop-init
loop-init c = record { gained = HasGainedSome-of c.args.pass.now c.args.pass.now 0 (HasGained-none c.args.pass.now); room = refl }

pub loop-smaller : goal.loop-smaller
loop-smaller c =
    unblackened-lt c.loop.pass.view c.sweep.new.pass.view c.sweep.ensures.gained.gained.blackened (object_count c.args.table.now.heap.memory)
    (c.sweep.ensures.more c.loop-test.true)

pub loop-preserved : goal.loop-preserved
loop-preserved c =
    record {
      gained = HasGainedSome-then c.args.pass.now c.loop.pass c.sweep.new.pass c.loop.invariant.gained c.sweep.ensures.gained;
      room = c.sweep.ensures.room ∙ c.loop.invariant.room;
    }

pub returns-clause-gained : goal.returns-clause-gained
returns-clause-gained c =
    HasGainedSome-then c.args.pass.now c.loop.pass c.sweep.new.pass c.loop.invariant.gained c.sweep.ensures.gained

pub returns-clause-scanned : goal.returns-clause-scanned
returns-clause-scanned c = c.sweep.ensures.scanned c.loop-test.false
