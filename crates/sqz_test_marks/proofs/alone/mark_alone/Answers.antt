use Rattle.std.proofs.Common.{◌∙◌, sym, ap, subst}
use Rattle.sqz_image.specs.Objects.{Memory, object_count}
use Rattle.sqz_regions.specs.Regions.{Regioning}
use Rattle.sqz_test_marks.specs.Passes.{AreSeen}
use Rattle.sqz_test_marks.proofs.PassLemmas.{IsLater-then, AreSeen-last, AreSeen-front, HasCountedAll-first}
use Rattle.sqz_test_marks.proofs.alone.mark_alone.Goals as goal

pub mark_targets-requires-clause-seen : goal.mark_targets-requires-clause-seen
mark_targets-requires-clause-seen c =
    (AreSeen-last (object_count c.args.heap.now) c.loop.pass.view c.pop.new.self.items c.in-Some.object
    (rw c.in-Some.ensures.items at c.loop.invariant.listed)).1

pub loop-preserved : goal.loop-preserved
loop-preserved c =
    let same = ap (λ (r : Regioning). r.memory) c.in_ok-table.ensures.table.0 ∙ c.requires in
    let front =
    AreSeen-front (object_count c.args.heap.now) c.loop.pass.view c.pop.new.self.items c.in-Some.object
    (rw c.in-Some.ensures.items at c.loop.invariant.listed) in
    record {
      later =
          IsLater-then c.in_ok-table.pass c.loop.pass c.mark_targets.new.pass c.loop.invariant.later
          c.in_ok-mark_targets.ensures.claims.later;
      listed =
          subst (λ (m : Memory). AreSeen (object_count m) c.mark_targets.new.pass.view c.mark_targets.new.won.items) same
          (c.in_ok-mark_targets.ensures.listed
          (subst (λ (m : Memory). AreSeen (object_count m) c.loop.pass.view c.pop.new.self.items) (sym same) front));
    }

pub close-requires-clause-counted : goal.close-requires-clause-counted
close-requires-clause-counted c =
    c.loop.invariant.later.counts (HasCountedAll-first _ c.in_ok-table.ensures.pass.1)
