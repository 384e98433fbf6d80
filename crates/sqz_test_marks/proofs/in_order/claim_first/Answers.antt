use Rattle.std.proofs.Common.{arith, refl}
use Rattle.sqz_marks.specs.Core.{counted}
use Rattle.sqz_test_marks.specs.InOrder.{nil_seen}
use Rattle.sqz_test_marks.proofs.InOrderLemmas.{field_of, at-first, at-of, at-won, at-seen, at-new, at-step, at-win}
use Rattle.sqz_test_marks.proofs.in_order.claim_first.Goals as goal

pub count-requires : goal.count-requires
count-requires g c =
    let first = c.args.pass.now in
    let at0 = at-first first nil_seen c.requires.known in
    record {
      of = at-of first at0 c.args.table.now c.requires.of;
      inside = omega (arith, c.requires.cycle.count);
      won = at-won first at0 0 (omega arith);
      new = at-new first at0 0 refl;
    }

pub claim-requires : goal.claim-requires
claim-requires g c =
    let first = c.args.pass.now in let marks = c.args.table.now in
    let at0 = at-first first nil_seen c.requires.known in
    let at1 = at-step first at0 c.count.new.pass (counted 0) c.count.ensures.step in
    record {
      of = at-of first at1 marks c.requires.of;
      inside = omega (arith, c.requires.cycle.count);
      seen = at-seen first at1 5 (omega arith);
    }

pub count-requires-2 : goal.count-requires-2
count-requires-2 g c =
    let first = c.args.pass.now in let marks = c.args.table.now in
    let at0 = at-first first nil_seen c.requires.known in
    let at1 = at-step first at0 c.count.new.pass (counted 0) c.count.ensures.step in
    let at2 = at-win first at1 c.claim.new.pass (field_of marks 5 1) c.claim.ensures.claim 1 c.assert_claim.ensures in
    record {
      of = at-of first at2.1 marks c.requires.of;
      inside = omega (arith, c.requires.cycle.count);
      won = at-won first at2.1 1 (omega arith);
      new = at-new first at2.1 1 refl;
    }

pub returns : goal.returns
returns g c =
    let first = c.args.pass.now in let marks = c.args.table.now in
    let at0 = at-first first nil_seen c.requires.known in
    let at1 = at-step first at0 c.count.new.pass (counted 0) c.count.ensures.step in
    let at2 = at-win first at1 c.claim.new.pass (field_of marks 5 1) c.claim.ensures.claim 1 c.assert_claim.ensures in
    record {
      known = at-step first at2.1 c.count-2.new.pass (counted 1) c.count-2.ensures.step;
      target = at2.0;
    }
