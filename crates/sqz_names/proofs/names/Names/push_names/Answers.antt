use Rattle.std.proofs.Common.{◌<◌, length, sym, ◌∙◌, arith}
use Rattle.std.proofs.lemmas.List.Elements.{All-push}
use Rattle.sqz_object.specs.Chunk.{fields}
use Rattle.sqz_image.specs.Objects.{chunk_words}
use Rattle.sqz_names.specs.Names.{IsTextObject}
use Rattle.sqz_names.proofs.InstanceVariableLemmas.{name_in-nothing, name_in-other, name_in-text, names_below-push, names_in-none}
use Rattle.sqz_names.proofs.names.Names.push_names.Goals as goal

pub loop-field-preserved : goal.loop-field-preserved
loop-field-preserved c =
    let memory = c.args.self.now.graph.heap.now in
    let is_text = sym c.is_bytes.ensures ∙ c.if-is_bytes.true in
    rw c.in_ok-push-in-Some.ensures.items
    (record {
      texts = All-push (IsTextObject memory) _ _ c.loop-field.invariant.texts
          (record { inside = c.in-Some.ensures.inside; is_text = is_text });
      names = names_below-push memory c.args.array c.args.names.now.items c.loop-field.names.items c.loop-field.field c.in-Some.name
          (name_in-text memory c.args.array c.loop-field.field c.in-Some.name c.in-Some.ensures.target is_text)
          c.loop-field.invariant.names;
    })

-- an element that is no byte object
pub returns-in_default-clause-names : goal.returns-in_default-clause-names
returns-in_default-clause-names c =
    let memory = c.args.self.now.graph.heap.now in
    let inside : c.loop-field.field < length (fields (chunk_words c.args.self.now.graph.heap.now c.args.array)) =
    omega (arith, c.loop-field-test.true, c.fields-field-end.ensures) in
    names_in-none memory c.args.array c.args.names.now.items c.loop-field.field inside
    (name_in-other memory c.args.array c.loop-field.field c.in-Some.name c.in-Some.ensures.target
    (sym c.is_bytes.ensures ∙ c.if-is_bytes.false))

-- an element that is no object
pub returns-in_default-2-clause-names : goal.returns-in_default-2-clause-names
returns-in_default-2-clause-names c =
    let memory = c.args.self.now.graph.heap.now in
    let inside : c.loop-field.field < length (fields (chunk_words c.args.self.now.graph.heap.now c.args.array)) =
    omega (arith, c.loop-field-test.true, c.fields-field-end.ensures) in
    names_in-none memory c.args.array c.args.names.now.items c.loop-field.field inside
    (name_in-nothing memory c.args.array c.loop-field.field (sym c.field_target.ensures.target ∙ c.in_default.is))
