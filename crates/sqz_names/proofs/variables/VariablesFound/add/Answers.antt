use Rattle.std.proofs.Common.{sym, ◌∙◌}
use Rattle.std.proofs.lemmas.List.{length-set}
use Rattle.sqz_names.proofs.VariableLemmas.{ListsArrays-keeps, ListsArrays-more, ListsVariablesOf-array, ListsVariablesOf-none}
use Rattle.sqz_names.proofs.variables.VariablesFound.add.Goals as goal

pub returns-in_default-clause-all : goal.returns-in_default-clause-all
returns-in_default-clause-all c =
    ListsVariablesOf-none c.args.self.now.graph.heap.now _ c.args.class (sym c.associations_of.ensures.associations ∙ c.in_default.is)

pub invariant_of-self : goal.invariant_of-self
invariant_of-self c = record {
  one_each = c.args.self.now.one_each;
  are_variables = c.push_variables.ensures.variables;
  are_all = ListsArrays-keeps c.args.self.now.graph.heap.now _ _ _ c.push_variables.ensures.keeps c.args.self.now.are_all;
}

pub invariant_of-self-then-not-contains : goal.invariant_of-self-then-not-contains
invariant_of-self-then-not-contains c =
    let memory = c.args.self.now.graph.heap.now in
    record {
      one_each = rw c.insert.ensures.adds (length-set c.args.self.now.arrays _ _ ∙ c.args.self.now.one_each);
      are_variables = c.push_variables.ensures.variables;
      are_all = rw c.insert.ensures.adds
          (ListsArrays-more memory c.args.self.now.arrays _ c.in-Some.array
          (ListsArrays-keeps memory c.args.self.now.arrays _ _ c.push_variables.ensures.keeps c.args.self.now.are_all)
          c.in_ok-push_variables.ensures.all);
    }

pub returns-in_ok-push_variables-clause-all : goal.returns-in_ok-push_variables-clause-all
returns-in_ok-push_variables-clause-all c =
    ListsVariablesOf-array c.args.self.now.graph.heap.now _ c.args.class c.in-Some.array
    (sym c.in-Some.ensures.associations) c.in_ok-push_variables.ensures.all

pub returns-else-not-contains-clause-all : goal.returns-else-not-contains-clause-all
returns-else-not-contains-clause-all c =
    ListsVariablesOf-array c.args.self.now.graph.heap.now c.args.self.now.names.items c.args.class c.in-Some.array
    (sym c.in-Some.ensures.associations)
    (c.args.self.now.are_all c.in-Some.array (sym c.contains.ensures ∙ c.if-not-contains.false))
