use Rattle.std.proofs.Common.{◌≡◌, true, sym, ap, ◌∙◌, rules}
use Rattle.std.specs.Option.{is_some}
use Rattle.sqz_names.proofs.ClassLemmas.{IsMetaclass-known}
use Rattle.sqz_names.proofs.names.Names.class_label.Goals as goal

pub returns-else-has_own_name-clause-label : goal.returns-else-has_own_name-clause-label
returns-else-has_own_name-clause-label c =
    let is : c.is_class.result ≡ true = search rules in
    let known : is_some c.naming.result ≡ true = search rules in (
      c.is_class.ensures.sound is,
      IsMetaclass-known c.args.self.now.graph.heap.now c.args.self.now.graph.weak c.args.object
          (ap is_some (sym c.naming.ensures.name) ∙ known) (sym c.has_own_name.ensures ∙ c.if-has_own_name.false),
    )
