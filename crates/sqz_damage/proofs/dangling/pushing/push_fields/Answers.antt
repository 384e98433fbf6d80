use Rattle.std.proofs.Common.{◌≡◌, ℕ, ◌<◌, true, false, List, [], ◌∷◌, slice_index, sym, ap, ◌∙◌, arith}
use Rattle.std.proofs.lemmas.List.{append-nil}
use Rattle.std.proofs.lemmas.Result.{err_from_is_err_and}
use Rattle.sqz_object.specs.declared.chunk.Chunk.{Chunk}
use Rattle.sqz_object.specs.Chunk.{fields, before}
use Rattle.sqz_image.specs.declared.slot.Slot.TheVariants.{Field}
use Rattle.sqz_image.specs.Objects.{object_at, chunk_words}
use Rattle.sqz_trace.specs.Slots.{traced, field_slots}
use Rattle.sqz_damage.specs.Dangling.{is_dangling, dangles, dangling_among}
use Rattle.sqz_damage.proofs.PushLemmas.{dangles-field, dangling_among-field, dangling_among-has, ArePushed-append, ArePushed-slot, IsPushError-missing}
use Rattle.sqz_damage.proofs.dangling.pushing.push_fields.Goals as goal
use Rattle.sqz_damage.proofs.dangling.pushing.push_fields.Goals.{then-is_dangling+in_ok-push_nil, else-is_dangling, After-is_dangling}

-- the word that is tested is that of the field
test_is : (c : After-is_dangling)
    → c.is_dangling.result ≡ dangles c.args.graph.heap.now c.args.graph.weak (chunk_words c.args.graph.heap.now c.args.object) (Field c.loop-index.index)
test_is c =
    let memory = c.args.graph.heap.now in
    let weak = c.args.graph.weak in
    let chunk = chunk_words memory c.args.object in
    let index = c.loop-index.index in
    let lt : index < traced chunk = omega (arith, c.traced_fields-index-end.ensures.traced, ap traced c.object-chunk.ensures, c.loop-index-test.true) in
    c.is_dangling.ensures
    ∙ ap (is_dangling memory weak)
    (c.at.ensures ∙ ap (λ (xs : List ℕ). slice_index xs index) (c.fields-fields.ensures.fields ∙ ap fields c.object-chunk.ensures))
    ∙ sym (dangles-field memory weak chunk index lt)

pub returns-in_err-push_nil-clause-refused : goal.returns-in_err-push_nil-clause-refused
returns-in_err-push_nil-clause-refused c =
    let at = (goal.at.returns-in_err-push_nil-clause-refused c).After-is_dangling in
    let memory = c.args.graph.heap.now in
    let weak = c.args.graph.weak in
    let chunk = chunk_words memory c.args.object in
    let index = c.loop-index.index in
    let lt : index < traced chunk = omega (arith, c.traced_fields-index-end.ensures.traced, ap traced c.object-chunk.ensures, c.loop-index-test.true) in
    let listed = dangling_among-has memory weak chunk index (traced chunk) lt (sym (test_is at) ∙ c.if-is_dangling.true) in
    let p = err_from_is_err_and c.from_residual.result c.from_residual.ensures.1 in
    rw (p.1, p.2)
    (IsPushError-missing c.args.nil (dangling_among memory weak chunk (field_slots 0 (traced chunk))) (Field index) c.in_err-push_nil.field-0.0 listed
    c.in_err-push_nil.ensures.refused)

pub loop-index-preserved : goal.loop-index-preserved
loop-index-preserved c =
    let at = (goal.at.loop-index-preserved c).After-is_dangling in
    let memory = c.args.graph.heap.now in
    let weak = c.args.graph.weak in
    let chunk = chunk_words memory c.args.object in
    let object = object_at memory c.args.object in
    let index = c.loop-index.index in
    let found = dangling_among memory weak chunk (field_slots 0 index) in
    elim c.if-is_dangling.branch [
      | then-is_dangling+in_ok-push_nil w ↦
          let more = dangling_among-field memory weak chunk index true (sym (test_is at) ∙ w.if-is_dangling.true) in
          let before_is : c.header.result.before ≡ before chunk =
          ap (λ (h : Chunk). h.before) c.header.ensures.described ∙ ap before c.object-chunk.ensures in
          rw (more, w.patches-is)
          (ArePushed-append c.args.nil object found (Field index ∷ []) _ _ _ c.loop-index.invariant
          (ArePushed-slot c.args.nil object (Field index) _ _ _ _ (omega (arith, before_is, c.first.ensures.first)) (omega arith)
          w.in_ok-push_nil.ensures.pushed w.in_ok-push_nil.ensures.needed))
      | else-is_dangling w ↦
          let more = dangling_among-field memory weak chunk index false (sym (test_is at) ∙ w.if-is_dangling.false) ∙ append-nil found in
          rw (more, w.patches-is) c.loop-index.invariant
    ]
