use Rattle.std.proofs.Common.{◌≡◌, ◌<◌, true, false, refl, sym, ap, subst, ◌∙◌, arith, inl, inr}
use Rattle.std.specs.Prelude.{unwrap_or, vec_capacity}
use Rattle.std.proofs.lemmas.Bool.{cases_eq}
use Rattle.sqz_image.specs.Objects.{object_count}
use Rattle.sqz_marks.specs.Table.{HeldPass}
use Rattle.sqz_workers.specs.Gains.{HasGainedSome, HasBlackenedMore, IsBlackIfWon}
use Rattle.sqz_workers.proofs.GainLemmas.{HasGained-none, HasGainedSome-of, HasGainedSome-then}
use Rattle.sqz_workers.proofs.RemainingLemmas.{IsBlackIfWon-passed, HasBlackenedMore-within}
use Rattle.sqz_workers.proofs.remaining.sweep.Goals.{then-is_some, else-is_some}
use Rattle.sqz_workers.proofs.remaining.sweep.Goals as goal

pub loop-object-init : goal.loop-object-init
loop-object-init c =
    record {
      gained = HasGainedSome-of c.args.pass.now c.args.pass.now 0 (HasGained-none c.args.pass.now);
      more = λ e. absurd cc;
      scanned = λ e object none. absurd (omega arith);
      room = refl;
    }

pub loop-object-preserved : goal.loop-object-preserved
loop-object-preserved c =
    let count = object_count c.args.table.now.heap.memory in
    let first = c.args.pass.now in let old = c.loop-object.pass in let new = c.scan_if_grey.new.pass in
    let before = c.loop-object.invariant in let step = c.scan_if_grey.ensures in
    let gained = HasGainedSome-then first old new before.gained (HasGainedSome-of old new (unwrap_or c.scan_if_grey.result 0) step.gained) in
    elim c.if-is_some.branch [
      | then-is_some w ↦
          (let last = w.drain.new.pass in let more = step.more (sym c.is_some.ensures ∙ w.if-is_some.true) in
          record {
            gained = subst (λ (p : HeldPass). HasGainedSome first p) (sym w.pass-is)
                (HasGainedSome-then first new last gained w.drain.ensures.gained);
            more = λ found. subst (λ (p : HeldPass). HasBlackenedMore count first.view p.view) (sym w.pass-is)
                (HasBlackenedMore-within count first.view old.view new.view last.view before.gained.gained.blackened
                w.drain.ensures.gained.gained.blackened more);
            scanned = λ none. absurd (let no : true ≡ false = sym w.found-is ∙ none in cc);
            room = ap vec_capacity w.worklist-is ∙ w.drain.ensures.room ∙ step.room ∙ before.room;
          })
      | else-is_some w ↦
          (let inside : c.loop-object.object < count = omega (arith, ap object_count c.heap.ensures, c.len-object-end.ensures.objects, c.loop-object-test.true) in
          let passed = step.passed (sym c.is_some.ensures ∙ w.if-is_some.false) in
          record {
            gained = subst (λ (p : HeldPass). HasGainedSome first p) (sym w.pass-is) gained;
            more = λ found. subst (λ (p : HeldPass). HasBlackenedMore count first.view p.view) (sym w.pass-is)
                (HasBlackenedMore-within count first.view first.view old.view new.view (λ object known. known) step.gained.blackened
                (before.more (sym w.found-is ∙ found)));
            scanned = λ none object lt. subst (λ (p : HeldPass). IsBlackIfWon p.view object) (sym w.pass-is)
                (elim (cases_eq object c.loop-object.object) [
                  | inl same ↦ subst (IsBlackIfWon new.view) (sym same) (passed inside).black
                  | inr differs ↦ IsBlackIfWon-passed c.loop-object.object object old.view new.view (passed inside)
                      step.gained.blackened (before.scanned (sym w.found-is ∙ none) object (omega (arith, lt, differs)))
                ]);
            room = ap vec_capacity w.worklist-is ∙ step.room ∙ before.room;
          })
    ]

pub returns-clause-scanned : goal.returns-clause-scanned
returns-clause-scanned c none object inside =
    c.loop-object.invariant.scanned none object
    (omega (arith, inside, ap object_count c.heap.ensures, c.len-object-end.ensures.objects, c.loop-object-test.false, c.loop-object.auto.object-end))
