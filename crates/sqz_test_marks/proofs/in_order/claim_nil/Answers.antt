use Rattle.std.proofs.Common.{arith}
use Rattle.sqz_trace.specs.declared.shades.Shade.TheVariants.{Grey}
use Rattle.sqz_marks.specs.Core.{first_view}
use Rattle.sqz_test_marks.proofs.InOrderLemmas.{class_of, field_of, at-first, at-of, at-seen, at-look, at-win, at-see, at-none}
use Rattle.sqz_test_marks.proofs.in_order.claim_nil.Goals as goal

pub claim-requires-2 : goal.claim-requires-2
claim-requires-2 g c =
    let first = c.args.pass.now in let marks = c.args.table.now in
    let at0 = at-first first (first_view 2 5) c.requires.opened in
    let at1 = at-look first at0 c.look.new.pass 5 Grey c.assert_shade.ensures c.look.ensures.step in
    let at2 = at-win first at1 c.claim.new.pass (field_of marks 5 0) c.claim.ensures.claim 0 c.assert_claim.ensures in
    record {
      of = at-of first at2.1 marks c.requires.of;
      inside = omega (arith, c.requires.cycle.count);
      seen = at-seen first at2.1 5 (omega arith);
    }

pub claim-requires-3 : goal.claim-requires-3
claim-requires-3 g c =
    let first = c.args.pass.now in let marks = c.args.table.now in
    let at0 = at-first first (first_view 2 5) c.requires.opened in
    let at1 = at-look first at0 c.look.new.pass 5 Grey c.assert_shade.ensures c.look.ensures.step in
    let at2 = at-win first at1 c.claim.new.pass (field_of marks 5 0) c.claim.ensures.claim 0 c.assert_claim.ensures in
    let at3 = at-see first at2.1 c.claim-2.new.pass (field_of marks 5 0) c.claim-2.ensures.claim 0 c.assert_claim-2.ensures in
    record {
      of = at-of first at3.1 marks c.requires.of;
      inside = omega (arith, c.requires.cycle.count);
      seen = at-seen first at3.1 5 (omega arith);
    }

pub returns : goal.returns
returns g c =
    let first = c.args.pass.now in let marks = c.args.table.now in
    let at0 = at-first first (first_view 2 5) c.requires.opened in
    let at1 = at-look first at0 c.look.new.pass 5 Grey c.assert_shade.ensures c.look.ensures.step in
    let at2 = at-win first at1 c.claim.new.pass (field_of marks 5 0) c.claim.ensures.claim 0 c.assert_claim.ensures in
    let at3 = at-see first at2.1 c.claim-2.new.pass (field_of marks 5 0) c.claim-2.ensures.claim 0 c.assert_claim-2.ensures in
    record {
      known = at-none first at3.1 c.claim-3.new.pass (class_of marks 5) c.claim-3.ensures.claim c.assert_claim-3.ensures;
      target = at2.0;
    }
