use Rattle.std.proofs.Common.{refl, subst, arith}
use Rattle.sqz_marks.specs.Core.{HasSeen, counted, blackened}
use Rattle.sqz_test_marks.specs.InOrder.{special_black}
use Rattle.sqz_test_marks.proofs.InOrderLemmas.{field_of, at-first, at-of, at-won, at-seen, at-new, at-step, at-win, at-see}
use Rattle.sqz_test_marks.proofs.InOrderLemmas.{HasEdge-none, HasEdge-one}
use Rattle.sqz_test_marks.proofs.in_order.mark_others.Goals as goal

pub count-requires : goal.count-requires
count-requires g c =
    let first = c.args.pass.now in let marks = c.args.table.now in
    let at0 = at-first first special_black c.requires.marked in
    let at1 = at-win first at0 c.claim.new.pass (field_of marks 1 0) c.claim.ensures.claim 3 c.assert_claim.ensures in
    record {
      of = at-of first at1.1 marks c.requires.of;
      inside = omega (arith, c.requires.cycle.count);
      won = at-won first at1.1 3 (omega arith);
      new = at-new first at1.1 3 refl;
    }

pub claim-requires-2 : goal.claim-requires-2
claim-requires-2 g c =
    let first = c.args.pass.now in let marks = c.args.table.now in
    let at0 = at-first first special_black c.requires.marked in
    let at1 = at-win first at0 c.claim.new.pass (field_of marks 1 0) c.claim.ensures.claim 3 c.assert_claim.ensures in
    let at2 = at-step first at1.1 c.count.new.pass (counted 3) c.count.ensures.step in
    record {
      of = at-of first at2 marks c.requires.of;
      inside = omega (arith, c.requires.cycle.count);
      seen = at-seen first at2 3 (omega arith);
    }

pub blacken-requires : goal.blacken-requires
blacken-requires g c =
    let first = c.args.pass.now in let marks = c.args.table.now in
    let at0 = at-first first special_black c.requires.marked in
    let at1 = at-win first at0 c.claim.new.pass (field_of marks 1 0) c.claim.ensures.claim 3 c.assert_claim.ensures in
    let at2 = at-step first at1.1 c.count.new.pass (counted 3) c.count.ensures.step in
    let at3 = at-see first at2 c.claim-2.new.pass (field_of marks 3 0) c.claim-2.ensures.claim 1 c.assert_claim-2.ensures in
    record {
      of = at-of first at3.1 marks c.requires.of;
      inside = omega (arith, c.requires.cycle.count);
      seen = at-seen first at3.1 0 (omega arith);
      targets = λ target edge. absurd (HasEdge-none marks.heap.memory marks.weak 0 c.requires.cycle.nil target edge);
    }

pub blacken-requires-2 : goal.blacken-requires-2
blacken-requires-2 g c =
    let first = c.args.pass.now in let marks = c.args.table.now in
    let at0 = at-first first special_black c.requires.marked in
    let at1 = at-win first at0 c.claim.new.pass (field_of marks 1 0) c.claim.ensures.claim 3 c.assert_claim.ensures in
    let at2 = at-step first at1.1 c.count.new.pass (counted 3) c.count.ensures.step in
    let at3 = at-see first at2 c.claim-2.new.pass (field_of marks 3 0) c.claim-2.ensures.claim 1 c.assert_claim-2.ensures in
    let at4 = at-step first at3.1 c.blacken.new.pass (blackened 0) c.blacken.ensures.step in
    record {
      of = at-of first at4 marks c.requires.of;
      inside = omega (arith, c.requires.cycle.count);
      seen = at-seen first at4 1 (omega arith);
      targets = λ target edge.
          subst (HasSeen c.blacken.new.pass.view)
          (HasEdge-one marks.heap.memory marks.weak 1 c.requires.cycle.first 3 target at1.0 edge)
          (at-seen first at4 3 (omega arith));
    }

pub blacken-requires-3 : goal.blacken-requires-3
blacken-requires-3 g c =
    let first = c.args.pass.now in let marks = c.args.table.now in
    let at0 = at-first first special_black c.requires.marked in
    let at1 = at-win first at0 c.claim.new.pass (field_of marks 1 0) c.claim.ensures.claim 3 c.assert_claim.ensures in
    let at2 = at-step first at1.1 c.count.new.pass (counted 3) c.count.ensures.step in
    let at3 = at-see first at2 c.claim-2.new.pass (field_of marks 3 0) c.claim-2.ensures.claim 1 c.assert_claim-2.ensures in
    let at4 = at-step first at3.1 c.blacken.new.pass (blackened 0) c.blacken.ensures.step in
    let at5 = at-step first at4 c.blacken-2.new.pass (blackened 1) c.blacken-2.ensures.step in
    record {
      of = at-of first at5 marks c.requires.of;
      inside = omega (arith, c.requires.cycle.count);
      seen = at-seen first at5 3 (omega arith);
      targets = λ target edge.
          subst (HasSeen c.blacken-2.new.pass.view)
          (HasEdge-one marks.heap.memory marks.weak 3 c.requires.cycle.second 1 target at3.0 edge)
          (at-seen first at5 1 (omega arith));
    }

pub returns : goal.returns
returns g c =
    let first = c.args.pass.now in let marks = c.args.table.now in
    let at0 = at-first first special_black c.requires.marked in
    let at1 = at-win first at0 c.claim.new.pass (field_of marks 1 0) c.claim.ensures.claim 3 c.assert_claim.ensures in
    let at2 = at-step first at1.1 c.count.new.pass (counted 3) c.count.ensures.step in
    let at3 = at-see first at2 c.claim-2.new.pass (field_of marks 3 0) c.claim-2.ensures.claim 1 c.assert_claim-2.ensures in
    let at4 = at-step first at3.1 c.blacken.new.pass (blackened 0) c.blacken.ensures.step in
    let at5 = at-step first at4 c.blacken-2.new.pass (blackened 1) c.blacken-2.ensures.step in
    let at6 = at-step first at5 c.blacken-3.new.pass (blackened 3) c.blacken-3.ensures.step in
    at6
