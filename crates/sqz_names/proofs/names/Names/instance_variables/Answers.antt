use Rattle.std.proofs.Common.{◌≡◌, ◌<◌, ◌≤◌, ◌+◌, ◌==◌, ℕ, Bool, None, Some, option_map, length, reverse, sym, ap, ◌∙◌, arith}
use Rattle.std.specs.Bool.{then_some}
use Rattle.sqz_names.specs.InstanceVariables.{name_arrays}
use Rattle.sqz_names.proofs.InstanceVariableLemmas.{instance_variables-by, instance_variables-many, instance_variables-unstated}
use Rattle.sqz_names.proofs.InstanceVariableLemmas.{all_some-arrays, names_of, names_of-all, names_of-more, names_of-none, option_map-then_some}
use Rattle.sqz_names.proofs.names.Names.instance_variables.Goals as goal

-- a class that states no number of fixed fields
pub returns-in_default-clause-names : goal.returns-in_default-clause-names
returns-in_default-clause-names c =
    instance_variables-unstated c.args.self.now.graph.heap.now c.args.class (sym c.fixed_by.ensures ∙ c.in_default.is)

-- more names than fixed fields
pub returns-in_default-2-clause-names : goal.returns-in_default-2-clause-names
returns-in_default-2-clause-names c =
    instance_variables-many c.args.self.now.graph.heap.now c.args.class c.in-Some.fixed (sym c.in-Some.ensures)
    (c.in_ok-arrays.ensures.many c.in_default-2.is)

pub loop-array-preserved : goal.loop-array-preserved
loop-array-preserved c =
    let memory = c.args.self.now.graph.heap.now in
    let arrays = c.deref-array-items.result.now in
    let inside : c.loop-array.array-index < length c.deref-array-items.result.now = omega arith in
    record {
      texts = c.in_ok-push_names.ensures.texts;
      names =
          sym (ap (λ (are : Bool). then_some are c.push_names.new.names.items) c.if-not-branch.false)
          ∙ c.in_ok-push_names.ensures.names
          ∙ names_of-more memory arrays c.loop-array.names.items c.loop-array.array-index inside c.loop-array.invariant.names;
    }

-- an element that is no byte object
pub returns-then-not-branch-clause-names : goal.returns-then-not-branch-clause-names
returns-then-not-branch-clause-names c =
    let memory = c.args.self.now.graph.heap.now in
    let arrays = c.deref-array-items.result.now in
    let stated = rw c.in-Some-2.is at c.in_ok-arrays.ensures.arrays in
    let same : c.deref-array-items.result.now ≡ reverse (name_arrays c.args.self.now.graph.heap.now c.args.class) =
    c.deref-array-items.ensures.value ∙ c.reverse.ensures.items ∙ ap reverse stated in
    let inside : c.loop-array.array-index < length c.deref-array-items.result.now = omega arith in
    let none : None ≡ names_of c.args.self.now.graph.heap.now c.deref-array-items.result.now (c.loop-array.array-index + 1) =
    sym (ap (λ (are : Bool). then_some are c.push_names.new.names.items) c.if-not-branch.true)
    ∙ c.in_ok-push_names.ensures.names
    ∙ names_of-more memory arrays c.loop-array.names.items c.loop-array.array-index inside c.loop-array.invariant.names in
    instance_variables-by memory c.args.class c.in-Some.fixed (sym c.in-Some.ensures) None
    (names_of-none memory arrays (c.loop-array.array-index + 1) none ∙ all_some-arrays memory arrays _ same)

pub returns-clause-names : goal.returns-clause-names
returns-clause-names c =
    let memory = c.args.self.now.graph.heap.now in
    let arrays = c.deref-array-items.result.now in
    let items = c.loop-array.names.items in
    let stated = rw c.in-Some-2.is at c.in_ok-arrays.ensures.arrays in
    let same : c.deref-array-items.result.now ≡ reverse (name_arrays c.args.self.now.graph.heap.now c.args.class) =
    c.deref-array-items.ensures.value ∙ c.reverse.ensures.items ∙ ap reverse stated in
    let end : length c.deref-array-items.result.now ≤ c.loop-array.array-index = omega (arith, c.loop-array-test.false) in
    let count : c.len.result ≡ length c.loop-array.names.items = c.len.ensures ∙ c.loop-array.names.ok.0 in
    ap (option_map (λ names. names.items)) c.then_some.ensures
    ∙ option_map-then_some (λ names. names.items) (c.len.result == c.in-Some.fixed) c.loop-array.names
    ∙ ap (λ (count : ℕ). then_some (count == c.in-Some.fixed) items) count
    ∙ instance_variables-by memory c.args.class c.in-Some.fixed (sym c.in-Some.ensures) (Some items)
    (c.loop-array.invariant.names ∙ names_of-all memory arrays c.loop-array.array-index end ∙ all_some-arrays memory arrays _ same)
