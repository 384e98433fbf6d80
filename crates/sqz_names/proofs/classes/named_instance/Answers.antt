use Rattle.std.proofs.Common.{◌≡◌, ◌∙◌, Some, true≢false, sym, ap, rules}
use Rattle.std.proofs.lemmas.Option.{same_Some}
use Rattle.sqz_image.specs.Objects.{chunk_words}
use Rattle.sqz_trace.specs.Strong.{class_of}
use Rattle.sqz_names.specs.Structures.{has_own_name}
use Rattle.sqz_names.proofs.classes.named_instance.Goals as goal
use Rattle.sqz_names.proofs.classes.named_instance.Goals.{else-eq-via-then-eq+else-has_own_name, else-eq-via-else-eq}

pub returns-then-has_own_name-clause-sound : goal.returns-then-has_own_name-clause-sound
returns-then-has_own_name-clause-sound c =
    let same : c.class_of.result ≡ Some c.args.class = search rules in
    record {
      is_class = sym c.class_of.ensures.class ∙ same;
      is_instance = sym c.field_target.ensures.target ∙ c.in_ok-instance.was;
      is_named = sym c.has_own_name.ensures ∙ c.if-has_own_name.true;
    }

pub returns-then-has_own_name-clause-complete : goal.returns-then-has_own_name-clause-complete
returns-then-has_own_name-clause-complete c instance is =
    sym c.in_ok-instance.was ∙ c.field_target.ensures.target ∙ is.is_instance

pub returns-else-eq-clause-complete : goal.returns-else-eq-clause-complete
returns-else-eq-clause-complete c instance is =
    let memory = c.args.classes.now.graph.heap.now in
    let weak = c.args.classes.now.graph.weak in
    let same : c.in_ok-instance.instance ≡ instance =
    same_Some _ _ (sym c.in_ok-instance.was ∙ c.field_target.ensures.target ∙ is.is_instance) in
    absurd (elim c.else-eq.branch [
      | else-eq-via-then-eq+else-has_own_name v ↦
          true≢false (sym is.is_named ∙ ap (has_own_name memory) (sym same) ∙ sym v.has_own_name.ensures ∙ v.if-has_own_name.false)
      | else-eq-via-else-eq v ↦
          let differ : c.class_of.result ≡ Some c.args.class → ⊥ = search rules in
          differ (c.class_of.ensures.class ∙ ap (λ it. class_of memory weak (chunk_words memory it)) same ∙ is.is_class)
    ])
