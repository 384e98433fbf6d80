use Rattle.std.proofs.Common.{◌<◌, ◌≤◌, ℕ, None, Some, true≢false, All, sym, ◌∙◌, arith, rules}
use Rattle.std.proofs.lemmas.List.Sorted.{All-permutation, Contains-permutation, IsNonDecreasingBy-from_sort, answers_always}
use Rattle.sqz_image.specs.Objects.{object_count}
use Rattle.sqz_names.specs.Structures.{IsClass}
use Rattle.sqz_names.specs.Names.{IsMethodName, IsVariableName, ListsMethodsOf, ListsVariablesOf}
use Rattle.sqz_names.proofs.MethodLemmas.{below-more, ListsMethodsOf-keeps}
use Rattle.sqz_names.proofs.VariableLemmas.{ListsVariables-all, ListsVariablesOf-keeps}
use Rattle.sqz_names.proofs.names.Names.of.Goals as goal
use Rattle.sqz_names.proofs.names.Names.of.Goals.{then-contains+in_ok-add-2+in_ok-add-3, else-contains}

pub loop-class-init : goal.loop-class-init
loop-class-init c = record {
  methods = c.in_ok-methods.ensures.graph;
  variables = c.in_ok-add.ensures.graph ∙ c.in_ok-variables.ensures;
  all_methods = λ class lt. absurd (omega (arith, lt));
  all_globals = rw c.in_ok-variables.ensures at c.in_ok-add.ensures.all;
  all_variables = λ class lt. absurd (omega (arith, lt));
}

pub loop-class-preserved : goal.loop-class-preserved
loop-class-preserved c =
    let memory = c.args.live.now.graph.heap.now in
    let weak = c.args.live.now.graph.weak in
    let class = c.loop-class.class in
    let so_far = c.loop-class.invariant in
    let inside : c.loop-class.class < object_count c.args.live.now.graph.heap.now =
    omega (arith, c.loop-class-test.true, c.len-class-end.ensures.objects) in
    elim c.if-contains.branch [
      | then-contains+in_ok-add-2+in_ok-add-3 w ↦
          let its_methods = rw so_far.methods at w.in_ok-add-2.ensures.all in
          let its_variables = rw so_far.variables at w.in_ok-add-3.ensures.all in
          rw (w.methods-is, w.variables-is)
          (record {
            methods = w.in_ok-add-2.ensures.graph ∙ so_far.methods;
            variables = w.in_ok-add-3.ensures.graph ∙ so_far.variables;
            all_methods = below-more (λ (it : ℕ). IsClass memory weak it → ListsMethodsOf memory _ it) class
                (λ it lt is. ListsMethodsOf-keeps memory _ _ w.in_ok-add-2.ensures.keeps it (so_far.all_methods it lt is))
                (λ is. its_methods);
            all_globals = ListsVariablesOf-keeps memory _ _ w.in_ok-add-3.ensures.keeps None so_far.all_globals;
            all_variables = below-more (λ (it : ℕ). IsClass memory weak it → ListsVariablesOf memory _ (Some it)) class
                (λ it lt is.
                ListsVariablesOf-keeps memory _ _ w.in_ok-add-3.ensures.keeps (Some it) (so_far.all_variables it lt is))
                (λ is. its_variables);
          })
      | else-contains w ↦
          let is_no_class : IsClass c.args.live.now.graph.heap.now c.args.live.now.graph.weak c.loop-class.class → ⊥ =
          λ is. true≢false (sym (c.in_ok-classes.ensures.classes.complete class inside is) ∙ sym c.contains.ensures ∙ w.if-contains.false) in
          rw (w.methods-is, w.variables-is)
          (record {
            methods = so_far.methods;
            variables = so_far.variables;
            all_methods = below-more (λ (it : ℕ). IsClass memory weak it → ListsMethodsOf memory c.loop-class.methods.names.items it)
                class so_far.all_methods (λ is. absurd (is_no_class is));
            all_globals = so_far.all_globals;
            all_variables = below-more
                (λ (it : ℕ). IsClass memory weak it → ListsVariablesOf memory c.loop-class.variables.names.items (Some it))
                class so_far.all_variables (λ is. absurd (is_no_class is));
          })
    ]

pub invariant_of-result : goal.invariant_of-result
invariant_of-result c =
    let memory = c.args.live.now.graph.heap.now in
    let weak = c.args.live.now.graph.weak in
    let so_far = c.loop-class.invariant in
    let methods : All (IsMethodName c.args.live.now.graph.heap.now c.args.live.now.graph.weak) c.loop-class.methods.names.items =
    rw (← c.loop-class.invariant.methods) c.loop-class.methods.are_methods in
    let variables : All (IsVariableName c.args.live.now.graph.heap.now c.args.live.now.graph.weak) c.loop-class.variables.names.items =
    rw (← c.loop-class.invariant.variables) c.loop-class.variables.are_variables in
    let end : object_count c.args.live.now.graph.heap.now ≤ c.loop-class.class =
    omega (arith, c.loop-class-test.false, c.len-class-end.ensures.objects) in
    record {
      one_each = c.in_ok-classes.ensures.sized;
      are_classes = c.in_ok-classes.ensures.classes;
      are_methods = All-permutation (IsMethodName memory weak) _ _ c.sort_by_key.ensures.permutation methods;
      are_variables = All-permutation (IsVariableName memory weak) _ _ c.sort_by_key-2.ensures.permutation variables;
      methods_in_order = IsNonDecreasingBy-from_sort (λ name. name.method) _
          (c.in_ok-sort_by_key.ensures.sorted (λ name. name.method) (answers_always _ _ _ (λ f a r g h. search rules)));
      variables_in_order = IsNonDecreasingBy-from_sort (λ name. name.association) _
          (c.in_ok-sort_by_key-2.ensures.sorted (λ name. name.association) (answers_always _ _ _ (λ f a r g h. search rules)));
      all_methods = λ class inside is.
          ListsMethodsOf-keeps memory _ _ (λ name. Contains-permutation _ _ name c.sort_by_key.ensures.permutation) class
          (so_far.all_methods class (omega (arith, inside, end)) is);
      all_variables = λ owner is.
          ListsVariablesOf-keeps memory _ _ (λ name. Contains-permutation _ _ name c.sort_by_key-2.ensures.permutation) owner
          (ListsVariables-all memory weak _ c.loop-class.class end so_far.all_globals so_far.all_variables owner is);
    }
