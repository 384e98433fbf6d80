use Rattle.std.proofs.Common.{◌≡◌, Some, sym, subst, ◌∙◌}
use Rattle.std.specs.Option.{IsSome}
use Rattle.sqz_names.specs.Structures.{dictionary_of, associations_of}
use Rattle.sqz_names.proofs.VariableLemmas.{associations_of-dictionary, IsSome-associations, IsElement-association}
use Rattle.sqz_names.proofs.names.Names.held.Goals as goal

pub unwrap-requires-2 : goal.unwrap-requires-2
unwrap-requires-2 c =
    subst IsSome (sym c.associations_of.ensures.associations)
    (IsSome-associations c.args.self.now.graph.heap.now c.args.name.class c.args.name.association c.args.name.key c.requires.is)

pub returns-clause-held : goal.returns-clause-held
returns-clause-held c =
    let memory = c.args.self.now.graph.heap.now in
    let class = c.args.name.class in
    let association = c.args.name.association in
    let key = c.args.name.key in
    let has_dictionary : dictionary_of c.args.self.now.graph.heap.now c.args.name.class ≡ Some c.unwrap.result =
    sym c.dictionary_of.ensures.dictionary ∙ c.unwrap.ensures in
    let has_associations : associations_of c.args.self.now.graph.heap.now c.args.name.class ≡ Some c.unwrap-2.result =
    sym c.associations_of.ensures.associations ∙ c.unwrap-2.ensures in
    record {
      dictionary = ∣ record { class = class; of_class = c.requires.of_class; is = has_dictionary } ∣₁;
      array = sym (associations_of-dictionary memory class association key c.unwrap.result has_dictionary) ∙ has_associations;
      element = IsElement-association memory class association key c.unwrap-2.result c.requires.is has_associations;
      value = c.field_target.ensures.target;
    }
