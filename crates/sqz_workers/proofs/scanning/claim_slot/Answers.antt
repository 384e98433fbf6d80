use Rattle.std.proofs.Common.{◌≡◌, refl, sym, ◌∙◌, arith, inl, inr}
use Rattle.sqz_marks.specs.declared.claim.Claim.TheVariants.{Won, Seen, Nothing}
use Rattle.sqz_trace.specs.Edges.{edge_target}
use Rattle.sqz_workers.proofs.GainLemmas.{HasGained-claimed, HasGained-unclaimed, HasSeenTarget-claimed}
use Rattle.sqz_workers.proofs.scanning.claim_slot.Goals as goal

pub returns-in-Won-clause-gained : goal.returns-in-Won-clause-gained
returns-in-Won-clause-gained g c =
    HasGained-claimed c.args.pass.now c.claim_of.new.pass c.claim_of.result
    (edge_target c.args.edges.now c.args.slot) c.in-Won.object c.count.new.pass
    c.claim_of.ensures.claim c.in-Won.is c.count.ensures.step

pub returns-in-Seen : goal.returns-in-Seen
returns-in-Seen g c =
    let names = edge_target c.args.edges.now c.args.slot in
    record {
      gained =
          HasGained-unclaimed c.args.pass.now c.claim_of.new.pass c.claim_of.result names c.claim_of.ensures.claim
          (λ object won. elim c.in-Seen.is [
            | inl seen ↦ (let no : Seen seen.0 ≡ Won object = sym seen.1 ∙ won in cc)
            | inr nothing ↦ (let no : Nothing ≡ Won object = sym nothing ∙ won in cc)
          ]);
      one = omega arith;
      seen = HasSeenTarget-claimed c.args.pass.now c.claim_of.new.pass c.claim_of.result names c.claim_of.ensures.claim;
      room = refl;
    }
