use Rattle.std.proofs.Common.{◌<◌, ◌++◌, ◌∷◌, [], List, ℕ, ap, sym, ◌∙◌}
use Rattle.std.proofs.lemmas.List.Elements.{All-push}
use Rattle.sqz_image.specs.Objects.{object_count}
use Rattle.sqz_code.specs.Mentions.{selector_of}
use Rattle.sqz_code.proofs.JoinLemmas.{filter_map-take-some, filter_map-take-none}
use Rattle.sqz_code.proofs.selectors.mentions.sent_by.Goals.{in-Some+in_ok-push, in_default}
use Rattle.sqz_code.proofs.selectors.mentions.sent_by.Goals as goal

pub loop-instruction-preserved : goal.loop-instruction-preserved
loop-instruction-preserved c = elim c.match-selector_of.branch [
  | in-Some+in_ok-push w ↦
      let found = filter_map-take-some (λ instruction. selector_of c.args.heap.now c.args.method instruction.operation)
      c.deref-instruction-items.result.now c.loop-instruction.instruction-index _ c.loop-instruction-test.true w.in-Some.selector
      (sym c.selector_of.ensures.selector ∙ w.in-Some.is)
      in
      rw (w.sent-is, w.in_ok-push.ensures.items) (
        ap (λ (l : List ℕ). l ++ w.in-Some.selector ∷ []) c.loop-instruction.invariant.0 ∙ sym found,
        All-push (λ selector. selector < object_count c.args.heap.now) c.loop-instruction.sent.items w.in-Some.selector
            c.loop-instruction.invariant.1 w.in-Some.ensures.inside,
      )
  | in_default w ↦
      let found = filter_map-take-none (λ instruction. selector_of c.args.heap.now c.args.method instruction.operation)
      c.deref-instruction-items.result.now c.loop-instruction.instruction-index _ c.loop-instruction-test.true
      (sym c.selector_of.ensures.selector ∙ w.in_default.is)
      in
      rw w.sent-is (c.loop-instruction.invariant.0 ∙ sym found, c.loop-instruction.invariant.1)
]
