use Rattle.std.proofs.Common.{ℕ, ◌++◌, List, [], ◌∷◌, Option, sym, ap, ◌∙◌, append_assoc}
use Rattle.std.specs.List.{filter_map, range_with_len}
use Rattle.sqz_image.specs.declared.slot.Slot.TheVariants.{Field}
use Rattle.sqz_trace.specs.Targets.{target}
use Rattle.sqz_facts.proofs.RangeLemmas.{filter_map-none, filter_map-some}
use Rattle.sqz_strict.proofs.associations.push_elements.Goals as goal
use Rattle.sqz_strict.proofs.associations.push_elements.Goals.{in-Some+in_ok-push, in_default}

pub loop-field-preserved : goal.loop-field-preserved
loop-field-preserved c =
    let report : ℕ → Option ℕ = λ field. target c.args.heap.now c.args.array (Field field) in
    let field = c.loop-field.field in
    let old = c.args.found.now.items in
    let before = filter_map report (range_with_len 0 field) in
    elim c.match-target.branch [
      | in-Some+in_ok-push w ↦
          let last : List ℕ = w.in-Some.element ∷ [] in
          rw w.found-is
          (w.in_ok-push.ensures.items
          ∙ ap (λ items. items ++ last) c.loop-field.invariant
          ∙ append_assoc old before last
          ∙ ap (λ more. old ++ more) (sym (filter_map-some report field w.in-Some.element (sym w.in-Some.ensures.named))))
      | in_default w ↦
          rw w.found-is
          (c.loop-field.invariant
          ∙ ap (λ more. old ++ more) (sym (filter_map-none report field (sym c.target.ensures.named ∙ w.in_default.is))))
    ]
