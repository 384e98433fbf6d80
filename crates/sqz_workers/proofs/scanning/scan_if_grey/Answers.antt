use Rattle.std.proofs.Common.{sym, ap, ◌∙◌, arith, inl, inr}
use Rattle.sqz_image.specs.Objects.{object_count}
use Rattle.sqz_trace.specs.declared.shades.Shade.TheVariants.{Grey}
use Rattle.sqz_trace.proofs.ShadeLemmas.{white-grey, grey-black}
use Rattle.sqz_marks.specs.Core.{times}
use Rattle.sqz_marks.proofs.TimesLemmas.{zero-if_never}
use Rattle.sqz_workers.proofs.GainLemmas.{HasGained-looked, HasGained-after}
use Rattle.sqz_workers.proofs.RemainingLemmas.{IsPassedBy-looked}
use Rattle.sqz_workers.proofs.scanning.scan_if_grey.Goals as goal

pub returns-in-Grey-clause-gained : goal.returns-in-Grey-clause-gained
returns-in-Grey-clause-gained g c =
    HasGained-after c.args.pass.now c.look.new.pass c.scan_object.new.pass c.scan_object.result
    (HasGained-looked c.args.pass.now c.look.new.pass Grey c.args.object c.in-Grey.ensures.step) c.scan_object.ensures.gained

pub returns-in-Grey-clause-more : goal.returns-in-Grey-clause-more
returns-in-Grey-clause-more g c is =
    record {
      object = c.args.object;
      inside = omega (arith, ap object_count c.heap.ensures);
      before = zero-if_never (times c.args.object c.args.pass.now.view.blackened) (λ known. grey-black (c.in-Grey.ensures.black known));
      now = c.scan_object.ensures.black;
    }

pub returns-in-White-clause-gained : goal.returns-in-White-clause-gained
returns-in-White-clause-gained g c = HasGained-looked c.args.pass.now c.look.new.pass c.look.result c.args.object c.look.ensures.step

pub returns-in-White-clause-passed : goal.returns-in-White-clause-passed
returns-in-White-clause-passed g c is inside =
    IsPassedBy-looked c.args.pass.now c.look.new.pass c.look.result c.args.object c.look.ensures.step
    (λ grey. elim c.in-White.is [
      | inl white ↦ white-grey (sym white ∙ grey)
      | inr black ↦ grey-black (sym grey ∙ black)
    ])
    c.look.ensures.unwon
