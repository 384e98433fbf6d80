use Rattle.std.proofs.Common.{◌≡◌, suc, Some, sym, ap, ◌∙◌, arith}
use Rattle.sqz_image.specs.declared.slot.Slot.TheVariants.{Field}
use Rattle.std.specs.Option.{option_and_then}
use Rattle.sqz_trace.specs.Edges.{OutEdges, edge_target}
use Rattle.sqz_trace.specs.Strong.{compact_classes, held_by_word}
use Rattle.sqz_trace.proofs.StrongLemmas.{compact_class-held}
use Rattle.sqz_trace.proofs.classes.compact_class.Goals as goal

pub returns-clause-class : goal.returns-clause-class
returns-clause-class c =
    let next : c.args.index ≡ suc c.in_ok-field.field = omega (arith, c.in_ok-field.ensures.0, c.in_ok-field.ensures.1) in
    let special : (λ (edges : OutEdges). edge_target edges (Field 28)) c.by_class_word-special.result ≡ Some c.in_ok-classes.classes =
    sym c.target.ensures.target ∙ c.in_ok-classes.was
    in
    let classes : compact_classes c.args.heap.now c.args.weak ≡ Some c.in_ok-classes.classes =
    ap (option_and_then (λ special. held_by_word c.args.heap.now c.args.weak special 28)) c.special.ensures.special
    ∙ sym (ap (λ (edges : OutEdges). edge_target edges (Field 28)) c.by_class_word-special.ensures)
    ∙ special
    in
    c.target-2.ensures.target
    ∙ ap (λ (edges : OutEdges). edge_target edges (Field c.in_ok-field.field)) c.by_class_word.ensures
    ∙ sym (compact_class-held c.args.heap.now c.args.weak c.args.index c.in_ok-field.field c.in_ok-classes.classes next classes)
