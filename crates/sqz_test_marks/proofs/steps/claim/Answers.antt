use Rattle.sqz_trace.specs.Edges.{out_edges, strong_target}
use Rattle.sqz_trace.proofs.EdgeLemmas.{named_among-lt}
use Rattle.sqz_test_marks.proofs.PassLemmas.{IsClaim-won, IsClaim-wins, IsClaim-counted, IsClaim-later, IsClaim-knows}
use Rattle.sqz_test_marks.proofs.steps.claim.Goals as goal

pub count-requires-clause-inside : goal.count-requires-clause-inside
count-requires-clause-inside c =
    let table = c.args.table.now in let edges = out_edges table.heap.memory table.weak c.args.parent in
    let named = strong_target table.heap.memory table.weak c.args.parent c.args.slot in
    let won = IsClaim-won c.args.pass.now c.claim-found.new.pass named c.in-Won.object c.in-Won.ensures.claim in
    named_among-lt table.heap.memory edges.strong edges.words c.args.slot c.in-Won.object won.0

pub count-requires-clause-won : goal.count-requires-clause-won
count-requires-clause-won c =
    let named = strong_target c.args.table.now.heap.memory c.args.table.now.weak c.args.parent c.args.slot in
    IsClaim-wins c.args.pass.now c.claim-found.new.pass named c.in-Won.object c.in-Won.ensures.claim

pub returns-in-Won : goal.returns-in-Won
returns-in-Won c =
    let named = strong_target c.args.table.now.heap.memory c.args.table.now.weak c.args.parent c.args.slot in
    let counted = IsClaim-counted c.args.pass.now c.claim-found.new.pass named c.in-Won.object c.count.new.pass
    c.in-Won.ensures.claim c.count.ensures.step in
    record { later = counted.1; knows = counted.0 }

pub returns-in_default : goal.returns-in_default
returns-in_default c =
    let named = strong_target c.args.table.now.heap.memory c.args.table.now.weak c.args.parent c.args.slot in
    let old = c.args.pass.now in
    let new = c.claim-found.new.pass in
    let answer = c.claim-found.result in
    record {
      later = IsClaim-later old new answer c.in_default.not-Won named c.claim-found.ensures.claim;
      knows = IsClaim-knows old new answer c.in_default.not-Won named c.claim-found.ensures.claim;
    }
