use Rattle.std.proofs.Common.{refl}
use Rattle.sqz_image.specs.Objects.{object_count}
use Rattle.sqz_trace.specs.Edges.{edge_target}
use Rattle.sqz_test_marks.proofs.PassLemmas.{IsClaim-wins, IsClaim-later, ClaimsTargets-slot, ClaimsTargets-won, AreSeen-later, AreSeen-won}
use Rattle.sqz_test_marks.proofs.targets.claim_target.Goals as goal

pub count-requires-clause-won : goal.count-requires-clause-won
count-requires-clause-won c =
    let named = edge_target c.args.edges.now c.args.slot in
    IsClaim-wins c.args.pass.now c.claim_of.new.pass named c.in-Won.found c.in-Won.ensures.claim

pub returns-in_ok-push-clause-claims : goal.returns-in_ok-push-clause-claims
returns-in_ok-push-clause-claims c =
    ClaimsTargets-won c.args.pass.now c.claim_of.new.pass c.args.edges.now c.args.slot
    c.in-Won.found c.count.new.pass c.in-Won.ensures.claim c.count.ensures.step

pub returns-in_ok-push-clause-listed : goal.returns-in_ok-push-clause-listed
returns-in_ok-push-clause-listed c =
    let named = edge_target c.args.edges.now c.args.slot in
    rw c.in_ok-push.ensures.items
    (AreSeen-won (object_count c.args.table.now.heap.memory) c.args.pass.now c.claim_of.new.pass c.count.new.pass named c.in-Won.found
    c.args.won.now.items c.in-Won.ensures.claim c.count.ensures.step (c.in-Won.ensures.inside c.in-Won.found refl))

pub returns-in_default-clause-listed : goal.returns-in_default-clause-listed
returns-in_default-clause-listed c = λ listed.
    AreSeen-later (object_count c.args.table.now.heap.memory) c.args.pass.now c.claim_of.new.pass c.args.won.now.items
    (IsClaim-later c.args.pass.now c.claim_of.new.pass c.claim_of.result c.in_default.not-Won
    (edge_target c.args.edges.now c.args.slot) c.claim_of.ensures.claim) listed

pub returns-in_default-clause-claims : goal.returns-in_default-clause-claims
returns-in_default-clause-claims c =
    ClaimsTargets-slot c.args.pass.now c.claim_of.new.pass c.args.edges.now c.args.slot
    c.claim_of.result c.in_default.not-Won c.claim_of.ensures.claim
