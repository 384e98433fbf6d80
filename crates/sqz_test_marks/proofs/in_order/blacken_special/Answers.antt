use Rattle.std.proofs.Common.{subst, arith, inl, inr}
use Rattle.sqz_trace.specs.declared.shades.Shade.TheVariants.{White, Black}
use Rattle.sqz_marks.specs.Core.{HasSeen, blackened}
use Rattle.sqz_test_marks.specs.InOrder.{first_counted}
use Rattle.sqz_test_marks.proofs.InOrderLemmas.{at-first, at-of, at-seen, at-step, at-look, HasEdge-two}
use Rattle.sqz_test_marks.proofs.in_order.blacken_special.Goals as goal

pub blacken-requires : goal.blacken-requires
blacken-requires g c =
    let first = c.args.pass.now in let marks = c.args.table.now in
    let at0 = at-first first first_counted c.requires.known in
    record {
      of = c.requires.of;
      inside = omega (arith, c.requires.cycle.count);
      seen = at-seen first at0 5 (omega arith);
      targets = λ target edge.
          elim (HasEdge-two marks.heap.memory marks.weak 5 c.requires.cycle.special 0 1 target c.requires.nil c.requires.first edge) [
            | inl same ↦ subst (HasSeen first.view) same (at-seen first at0 0 (omega arith))
            | inr same ↦ subst (HasSeen first.view) same (at-seen first at0 1 (omega arith))
          ];
    }

pub look-requires : goal.look-requires
look-requires g c =
    let first = c.args.pass.now in let marks = c.args.table.now in
    let at0 = at-first first first_counted c.requires.known in
    let at1 = at-step first at0 c.blacken.new.pass (blackened 5) c.blacken.ensures.step in
    record {
      of = at-of first at1 marks c.requires.of;
      inside = omega (arith, c.requires.cycle.count);
    }

pub look-requires-2 : goal.look-requires-2
look-requires-2 g c =
    let first = c.args.pass.now in let marks = c.args.table.now in
    let at0 = at-first first first_counted c.requires.known in
    let at1 = at-step first at0 c.blacken.new.pass (blackened 5) c.blacken.ensures.step in
    let at2 = at-look first at1 c.look.new.pass 5 Black c.assert_shade.ensures c.look.ensures.step in
    record {
      of = at-of first at2 marks c.requires.of;
      inside = omega (arith, c.requires.cycle.count);
    }

pub returns : goal.returns
returns g c =
    let first = c.args.pass.now in let marks = c.args.table.now in
    let at0 = at-first first first_counted c.requires.known in
    let at1 = at-step first at0 c.blacken.new.pass (blackened 5) c.blacken.ensures.step in
    let at2 = at-look first at1 c.look.new.pass 5 Black c.assert_shade.ensures c.look.ensures.step in
    at-look first at2 c.look-2.new.pass 2 White c.assert_shade-2.ensures c.look-2.ensures.step
