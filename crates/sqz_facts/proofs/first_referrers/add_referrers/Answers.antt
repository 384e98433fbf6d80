use Rattle.std.proofs.Common.{◌<◌, ◌∙◌, length, sym, arith}
use Rattle.std.proofs.lemmas.List.{length-set}
use Rattle.sqz_trace.specs.Edges.{strong_slots}
use Rattle.sqz_trace.proofs.TargetLemmas.{slots_at_end}
use Rattle.sqz_facts.proofs.FirstReferrerLemmas.{Holds-row}
use Rattle.sqz_facts.proofs.first_referrers.add_referrers.Goals as goal

pub loop-slot-preserved-in-loop-slot : goal.loop-slot-preserved-in-loop-slot
loop-slot-preserved-in-loop-slot c =
    let firsts = c.loop-slot.firsts in
    let at = sym c.row_in.ensures ∙ c.in-Some-row_in.is in
    let below = c.requires.inside c.in-Some-target.to c.in-Some-row_in.row at in
    let room : c.in-Some-row_in.row < length firsts = omega (arith, below, c.loop-slot.invariant.same_length) in
    record {
      same_length = length-set firsts c.in-Some-row_in.row c.with.result ∙ c.loop-slot.invariant.same_length;
      added = λ before held.
          Holds-row c.args.edges.now c.args.from c.args.rows.now before c.loop-slot.yielded firsts c.in-Some.slot
          (c.loop-slot.invariant.added before held) c.in-Some-target.to (sym c.target.ensures.target ∙ c.in-Some-target.is)
          c.in-Some-row_in.row at room c.requires.own c.with.result c.with.ensures;
    }

pub returns-clause-added : goal.returns-clause-added
returns-clause-added c =
    let all =
    slots_at_end (strong_slots c.args.edges.now) _ (c.into_iter-slot-iterator.ensures.into_iter_gives ∙ c.slots-slot-items.ensures)
    c.loop-slot.yielded _ c.loop-slot.yielded_by _ _ c.in-None.is c.next.ensures.steps in
    rw all at c.loop-slot.invariant.added
