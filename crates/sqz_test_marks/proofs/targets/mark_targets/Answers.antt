use Rattle.std.proofs.Common.{◌≡◌, [], ◌∷◌, ◌++◌, ◌∙◌, ℕ, Some}
use Rattle.sqz_image.specs.Objects.{object_count}
use Rattle.sqz_trace.specs.Edges.{strong_slots, edge_target, IsTargetAmong, HasEdge}
use Rattle.sqz_trace.proofs.TargetLemmas.{slots_at_end, IsTargetAmong-next, IsTargetAmong-edge}
use Rattle.sqz_test_marks.proofs.PassLemmas.{ClaimsTargets-of, ClaimsTargets-then, ClaimsTargets-blackened, AreSeen-blackened}
use Rattle.sqz_test_marks.proofs.targets.mark_targets.Goals as goal
use Rattle.sqz_test_marks.proofs.targets.mark_targets.Goals.{In-None}

pub claim_target-requires-clause-seen : goal.claim_target-requires-clause-seen
claim_target-requires-clause-seen c =
    record {
      object = c.args.object;
      inside = c.requires.inside;
      seen = c.loop-slot.invariant.claims.later.keeps c.args.object c.requires.seen;
      its = c.edges-edges.ensures;
    }

pub loop-slot-preserved : goal.loop-slot-preserved
loop-slot-preserved c =
    let edges = c.edges-edges.result in let slots = c.loop-slot.yielded in let slot = c.in-Some.slot in
    record {
      claims =
          ClaimsTargets-then (IsTargetAmong edges slots) (λ index. edge_target edges slot ≡ Some index)
          (IsTargetAmong edges (slots ++ slot ∷ [])) c.args.pass.now c.loop-slot.pass c.claim_target.new.pass
          (IsTargetAmong-next edges slots slot) c.loop-slot.invariant.claims c.in_ok-claim_target.ensures.claims;
      listed = λ seen. c.in_ok-claim_target.ensures.listed (c.loop-slot.invariant.listed seen);
    }

-- the object's edges lead to targets of the slots, all of which the loop went through
target_at_end : (c : In-None) (index : ℕ) → HasEdge c.args.table.now.heap.memory c.args.table.now.weak c.args.object index
    → IsTargetAmong c.edges-edges.result c.loop-slot.yielded index
target_at_end c =
    let table = c.args.table.now in let edges = c.edges-edges.result in
    IsTargetAmong-edge table.heap.memory table.weak c.args.object edges c.edges-edges.ensures c.loop-slot.yielded
    (slots_at_end (strong_slots edges) _ (c.into_iter-slot-iterator.ensures.into_iter_gives ∙ c.slots-slot-items.ensures)
    c.loop-slot.yielded _ c.loop-slot.yielded_by _ _ c.in-None.is c.next.ensures.steps)

pub blacken-requires-clause-targets : goal.blacken-requires-clause-targets
blacken-requires-clause-targets c = λ target edge.
    c.loop-slot.invariant.claims.targets target (target_at_end (goal.at.blacken-requires-clause-targets c).In-None target edge)

pub returns-clause-listed : goal.returns-clause-listed
returns-clause-listed c = λ seen.
    AreSeen-blackened (object_count c.args.table.now.heap.memory) c.args.object c.loop-slot.pass c.blacken.new.pass
    c.loop-slot.won.items c.blacken.ensures.step (c.loop-slot.invariant.listed seen)

pub returns-clause-claims : goal.returns-clause-claims
returns-clause-claims c =
    let IsTarget = HasEdge c.args.table.now.heap.memory c.args.table.now.weak c.args.object in
    ClaimsTargets-blackened IsTarget c.args.object c.args.pass.now c.loop-slot.pass c.blacken.new.pass
    c.blacken.ensures.step
    (ClaimsTargets-of (IsTargetAmong c.edges-edges.result c.loop-slot.yielded) IsTarget c.args.pass.now c.loop-slot.pass
    (target_at_end (goal.at.returns-clause-claims c).In-None) c.loop-slot.invariant.claims)
