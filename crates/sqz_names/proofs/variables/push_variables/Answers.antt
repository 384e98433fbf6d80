use Rattle.std.proofs.Common.{◌≡◌, ℕ, true≢false, Some, sym, ap, ◌∙◌, arith}
use Rattle.std.proofs.lemmas.List.Elements.{All-push, Contains-append_left}
use Rattle.std.proofs.lemmas.Option.{none-some, same_Some}
use Rattle.sqz_image.specs.declared.slot.Slot.TheVariants.{Field}
use Rattle.sqz_trace.specs.Targets.{target}
use Rattle.sqz_names.specs.Fields.{key_field}
use Rattle.sqz_names.specs.Structures.{is_bytes, IsVariableAmong}
use Rattle.sqz_names.specs.Names.{IsVariableName}
use Rattle.sqz_names.proofs.VariableLemmas.{IsVariable-element, ListsArray-all, ListsVariablesBelow-push, ListsVariablesBelow-skip}
use Rattle.sqz_names.proofs.variables.push_variables.Goals as goal
use Rattle.sqz_names.proofs.variables.push_variables.Goals.{then-is_bytes+in_ok-push, else-is_bytes}

pub loop-field-init : goal.loop-field-init
loop-field-init c = record {
  variables = c.requires.variables;
  keeps = λ name has. has;
  all = λ association key is lt. absurd (omega (arith, lt));
}

pub returns-in_err-push-clause-keeps : goal.returns-in_err-push-clause-keeps
returns-in_err-push-clause-keeps c name has = rw c.in_err-push.ensures.items (c.loop-field.invariant.keeps name has)

-- an element that is no object
pub loop-field-preserved-in_default : goal.loop-field-preserved-in_default
loop-field-preserved-in_default c =
    let so_far = c.loop-field.invariant in
    record {
      variables = so_far.variables;
      keeps = so_far.keeps;
      all = ListsVariablesBelow-skip c.args.graph.heap.now c.args.array c.loop-field.field c.loop-field.found.items so_far.all
          (λ association key is at.
          none-some association (sym (sym c.field_target.ensures.target ∙ c.in_default.is) ∙ at));
    }

-- an association without a key
pub loop-field-preserved-in_default-field_target : goal.loop-field-preserved-in_default-field_target
loop-field-preserved-in_default-field_target c =
    let memory = c.args.graph.heap.now in
    let so_far = c.loop-field.invariant in
    record {
      variables = so_far.variables;
      keeps = so_far.keeps;
      all = ListsVariablesBelow-skip memory c.args.array c.loop-field.field c.loop-field.found.items so_far.all
          (λ association key is at.
          let same : c.in-Some.association ≡ association = same_Some _ _ (c.in-Some.ensures.target ∙ at) in
          none-some key
          (sym (sym c.field_target-in-loop-field.ensures.target ∙ c.in_default-field_target.is)
          ∙ ap (λ (it : ℕ). target memory it (Field key_field)) same ∙ is.has_key));
    }

pub loop-field-preserved : goal.loop-field-preserved
loop-field-preserved c =
    let memory = c.args.graph.heap.now in
    let association = c.in-Some.association in
    let key = c.in-Some-field_target.key in
    let found = c.loop-field.found.items in
    let so_far = c.loop-field.invariant in
    let same_association : (it : ℕ) → target c.args.graph.heap.now c.args.array (Field c.loop-field.field) ≡ Some it
    → c.in-Some.association ≡ it =
    λ it at. same_Some _ _ (c.in-Some.ensures.target ∙ at) in
    let same_key : (it its : ℕ) (is : IsVariableAmong c.args.graph.heap.now c.args.array it its)
    → target c.args.graph.heap.now c.args.array (Field c.loop-field.field) ≡ Some it → c.in-Some-field_target.key ≡ its =
    λ it its is at.
    same_Some _ _ (c.in-Some-field_target.ensures.target
    ∙ ap (λ (other : ℕ). target memory other (Field key_field)) (same_association it at) ∙ is.has_key) in
    elim c.if-is_bytes.branch [
      | then-is_bytes+in_ok-push w ↦
          rw (w.found-is, w.in_ok-push.ensures.items)
          (record {
            variables = All-push (IsVariableName c.args.graph.heap.now c.args.graph.weak) _ _ so_far.variables
                (record {
                  association_inside = c.in-Some.ensures.inside;
                  key_inside = c.in-Some-field_target.ensures.inside;
                  of_class = c.requires.class;
                  is =
                      IsVariable-element c.args.graph.heap.now c.args.class association key c.args.array c.loop-field.field
                      c.requires.array (sym c.in-Some.ensures.target) (sym c.in-Some-field_target.ensures.target)
                      (sym c.is_bytes.ensures ∙ w.if-is_bytes.true);
                });
            keeps = λ name has. Contains-append_left found _ name (so_far.keeps name has);
            all = ListsVariablesBelow-push memory c.args.array c.loop-field.field found so_far.all _
                (λ it its is at. (same_association it at, same_key it its is at));
          })
      | else-is_bytes w ↦
          rw w.found-is
          (record {
            variables = so_far.variables;
            keeps = so_far.keeps;
            all = ListsVariablesBelow-skip memory c.args.array c.loop-field.field found so_far.all
                (λ it its is at.
                true≢false (sym is.is_text ∙ ap (is_bytes memory) (sym (same_key it its is at))
                ∙ sym c.is_bytes.ensures ∙ w.if-is_bytes.false));
          })
    ]

pub returns-clause-all : goal.returns-clause-all
returns-clause-all c =
    ListsArray-all c.args.graph.heap.now c.args.array c.loop-field.field c.loop-field.found.items
    (omega (arith, c.loop-field-test.false, c.fields-field-end.ensures)) c.loop-field.invariant.all
