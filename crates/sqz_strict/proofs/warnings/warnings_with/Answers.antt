use Rattle.std.proofs.Common.{◌++◌, true, false, sym, ap, ◌∙◌}
use Rattle.std.specs.List.{flat_map, range_with_len}
use Rattle.std.proofs.lemmas.List.{append-nil}
use Rattle.sqz_facts.proofs.RangeLemmas.{flat_map-next}
use Rattle.sqz_strict.specs.Warnings.{warnings_of, warnings_at}
use Rattle.sqz_strict.proofs.SetLemmas.{warnings_at-mark}
use Rattle.sqz_strict.proofs.warnings.warnings_with.Goals as goal
use Rattle.sqz_strict.proofs.warnings.warnings_with.Goals.{then-has+in_ok-push_warnings, else-has}

pub loop-object-preserved : goal.loop-object-preserved
loop-object-preserved c =
    let memory = c.args.live.now.graph.heap.now in
    let weak = c.args.live.now.graph.weak in
    let marks = c.args.live.now.marks in
    let sets = c.args.sets.now in
    let object = c.loop-object.object in
    let here = warnings_at memory weak marks sets in
    let before = flat_map here (range_with_len 0 object) in
    elim c.if-has.branch [
      | then-has+in_ok-push_warnings w ↦
          rw w.warnings-is
          (w.in_ok-push_warnings.ensures
          ∙ ap (λ items. items ++ warnings_of memory weak marks sets object) c.loop-object.invariant
          ∙ ap (λ last. before ++ last)
          (sym (warnings_at-mark memory weak marks object true sets (sym c.has.ensures ∙ w.if-has.true)))
          ∙ sym (flat_map-next here object))
      | else-has w ↦
          rw w.warnings-is
          (c.loop-object.invariant
          ∙ sym (append-nil before)
          ∙ ap (λ last. before ++ last)
          (sym (warnings_at-mark memory weak marks object false sets (sym c.has.ensures ∙ w.if-has.false)))
          ∙ sym (flat_map-next here object))
    ]
