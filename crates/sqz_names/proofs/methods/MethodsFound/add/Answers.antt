use Rattle.std.proofs.Common.{◌<◌, length, sym, ◌∙◌, arith}
use Rattle.std.proofs.lemmas.List.{length-set}
use Rattle.sqz_names.proofs.MethodLemmas.{ListsDictionaries-keeps, ListsDictionaries-more, ListsMethodsOf-dictionary, ListsMethodsOf-none}
use Rattle.sqz_names.proofs.MethodOrderLemmas.{has_dictionary-listed, has_dictionary-new, has_dictionary-none}
use Rattle.sqz_names.proofs.MethodOrderLemmas.{new_methods-listed, new_methods-new, new_methods-none}
use Rattle.sqz_names.proofs.methods.MethodsFound.add.Goals as goal

pub returns-in_default-clause-all : goal.returns-in_default-clause-all
returns-in_default-clause-all c =
    ListsMethodsOf-none c.args.self.now.graph.heap.now _ c.args.class (sym c.field_target.ensures.target ∙ c.in_default.is)

pub invariant_of-self : goal.invariant_of-self
invariant_of-self c = record {
  one_each = c.args.self.now.one_each;
  are_methods = c.push_methods.ensures.methods;
  are_all = ListsDictionaries-keeps c.args.self.now.graph.heap.now _ _ _ c.push_methods.ensures.keeps c.args.self.now.are_all;
}

pub invariant_of-self-then-not-contains : goal.invariant_of-self-then-not-contains
invariant_of-self-then-not-contains c =
    let memory = c.args.self.now.graph.heap.now in
    record {
      one_each = rw c.insert.ensures.adds (length-set c.args.self.now.dictionaries _ _ ∙ c.args.self.now.one_each);
      are_methods = c.push_methods.ensures.methods;
      are_all = rw c.insert.ensures.adds
          (ListsDictionaries-more memory c.args.self.now.dictionaries _ c.in-Some.dictionary
          (ListsDictionaries-keeps memory c.args.self.now.dictionaries _ _ c.push_methods.ensures.keeps c.args.self.now.are_all)
          c.in_ok-push_methods.ensures.all);
    }

pub returns-in_ok-push_methods-clause-all : goal.returns-in_ok-push_methods-clause-all
returns-in_ok-push_methods-clause-all c =
    ListsMethodsOf-dictionary c.args.self.now.graph.heap.now _ c.args.class c.in-Some.dictionary
    (sym c.in-Some.ensures.target) c.in_ok-push_methods.ensures.all

pub returns-else-not-contains-clause-all : goal.returns-else-not-contains-clause-all
returns-else-not-contains-clause-all c =
    ListsMethodsOf-dictionary c.args.self.now.graph.heap.now c.args.self.now.names.items c.args.class c.in-Some.dictionary
    (sym c.in-Some.ensures.target)
    (c.args.self.now.are_all c.in-Some.dictionary (sym c.contains.ensures ∙ c.if-not-contains.false))

-- a class without a method dictionary
pub returns-in_default-clause-listed : goal.returns-in_default-clause-listed
returns-in_default-clause-listed c =
    new_methods-none c.args.self.now.graph.heap.now c.args.class c.args.self.now.dictionaries c.args.self.now.names.items
    (sym c.field_target.ensures.target ∙ c.in_default.is)

pub returns-in_default-clause-dictionaries : goal.returns-in_default-clause-dictionaries
returns-in_default-clause-dictionaries c =
    has_dictionary-none c.args.self.now.graph.heap.now c.args.class c.args.self.now.dictionaries c.args.self.now.names.items
    (sym c.field_target.ensures.target ∙ c.in_default.is)

-- a method dictionary that is not listed yet
pub returns-in_ok-push_methods-clause-listed : goal.returns-in_ok-push_methods-clause-listed
returns-in_ok-push_methods-clause-listed c =
    new_methods-new c.args.self.now.graph.heap.now c.args.class c.args.self.now.dictionaries c.args.self.now.names.items
    c.in-Some.dictionary c.in-Some.ensures.target _ (sym c.contains.ensures ∙ c.if-not-contains.true)
    c.in_ok-push_methods.ensures.listed

pub returns-in_ok-push_methods-clause-dictionaries : goal.returns-in_ok-push_methods-clause-dictionaries
returns-in_ok-push_methods-clause-dictionaries c =
    let inside : c.in-Some.dictionary < length c.args.self.now.dictionaries =
    omega (arith, c.in-Some.ensures.inside, c.args.self.now.one_each) in
    rw c.insert.ensures.adds
    (has_dictionary-new c.args.self.now.graph.heap.now c.args.class c.args.self.now.dictionaries c.args.self.now.names.items
    c.in-Some.dictionary c.in-Some.ensures.target inside)

-- a method dictionary that is listed already
pub returns-else-not-contains-clause-listed : goal.returns-else-not-contains-clause-listed
returns-else-not-contains-clause-listed c =
    new_methods-listed c.args.self.now.graph.heap.now c.args.class c.args.self.now.dictionaries c.args.self.now.names.items
    c.in-Some.dictionary c.in-Some.ensures.target (sym c.contains.ensures ∙ c.if-not-contains.false)

pub returns-else-not-contains-clause-dictionaries : goal.returns-else-not-contains-clause-dictionaries
returns-else-not-contains-clause-dictionaries c =
    has_dictionary-listed c.args.self.now.graph.heap.now c.args.class c.args.self.now.dictionaries c.args.self.now.names.items
    c.in-Some.dictionary c.in-Some.ensures.target (sym c.contains.ensures ∙ c.if-not-contains.false)
