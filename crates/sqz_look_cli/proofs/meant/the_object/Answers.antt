use Rattle.std.proofs.Common.{subst}
use Rattle.sqz_alike.specs.Seen.{seen}
use Rattle.sqz_names.specs.declared.words.found.Found.TheVariants.{Nothing, One}
use Rattle.sqz_names.specs.Words.{IsObject}
use Rattle.sqz_look_cli.specs.Objects.{StandsForNone}
use Rattle.sqz_look_cli.proofs.ObjectLemmas.{IfNotThere-any}
use Rattle.sqz_look_cli.proofs.meant.the_object.Goals as goal

pub returns-in-One-clause-found : goal.returns-in-One-clause-found
returns-in-One-clause-found c =
    let inspector = c.args.inspector.now in
    let words = c.args.words.now in
    subst (λ graph. IsObject graph.heap.now graph.weak inspector.live.marks words (One c.in-One.object)) inspector.one_graph
    (subst (IsObject inspector.names.graph.heap.now inspector.names.graph.weak inspector.live.marks words) c.in-One.is
    c.in_ok-object.ensures.found)

pub returns-in_ok-not_there-in-Nothing-clause-absent : goal.returns-in_ok-not_there-in-Nothing-clause-absent
returns-in_ok-not_there-in-Nothing-clause-absent c =
    let inspector = c.args.inspector.now in
    let words = c.args.words.now in
    let missing = c.in-Nothing.missing in
    let is : IsObject inspector.live.graph.heap.now inspector.live.graph.weak inspector.live.marks words (Nothing missing) =
    subst (λ graph. IsObject graph.heap.now graph.weak inspector.live.marks words (Nothing missing)) inspector.one_graph
    (subst (IsObject inspector.names.graph.heap.now inspector.names.graph.weak inspector.live.marks words) c.in-Nothing.is
    c.in_ok-object.ensures.found) in
    IfNotThere-any (StandsForNone (seen inspector.live) words) c.in_ok-not_there-in-Nothing.field-0 ∣ (missing, is) ∣₁
