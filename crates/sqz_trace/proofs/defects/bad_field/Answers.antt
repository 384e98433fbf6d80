use Rattle.std.proofs.Common.{◌≡◌, ℕ, ◌<◌, ◌≤◌, List, slice_index, sym, ap, ◌∙◌, arith}
use Rattle.sqz_object.specs.Value.{value_of}
use Rattle.sqz_trace.specs.Slots.{traced}
use Rattle.sqz_trace.specs.Defects.{is_bad_value}
use Rattle.sqz_trace.proofs.DefectLemmas.{is_bad_field, bad_from-zero, bad_from-end, bad_from-bad, bad_from-good}
use Rattle.sqz_trace.proofs.defects.bad_field.Goals as goal
use Rattle.sqz_trace.proofs.defects.bad_field.Goals.{After-is_bad_word}

-- the word that is tested is that of the field
test_is : (c : After-is_bad_word) → c.is_bad_word.result ≡ is_bad_field c.args.heap.now c.args.object.now c.loop-index.index
test_is c =
    let word = c.at.ensures ∙ ap (λ (xs : List ℕ). slice_index xs c.loop-index.index) c.fields-fields.ensures.fields in
    c.is_bad_word.ensures ∙ ap (λ (x : ℕ). is_bad_value c.args.heap.now (value_of x)) word

pub returns-then-is_bad_word : goal.returns-then-is_bad_word
returns-then-is_bad_word c =
    let at = (goal.at.returns-then-is_bad_word c).After-is_bad_word in
    let lt : c.loop-index.index < traced c.args.object.now = omega (arith, c.traced_fields-index-end.ensures.traced, c.loop-index-test.true) in
    sym (bad_from-bad c.args.heap.now c.args.object.now c.loop-index.index lt (sym (test_is at) ∙ c.if-is_bad_word.true))
    ∙ c.loop-index.invariant ∙ bad_from-zero c.args.heap.now c.args.object.now

pub loop-index-preserved : goal.loop-index-preserved
loop-index-preserved c =
    let at = (goal.at.loop-index-preserved c).After-is_bad_word in
    let lt : c.loop-index.index < traced c.args.object.now = omega (arith, c.traced_fields-index-end.ensures.traced, c.loop-index-test.true) in
    sym (bad_from-good c.args.heap.now c.args.object.now c.loop-index.index lt (sym (test_is at) ∙ c.if-is_bad_word.false))
    ∙ c.loop-index.invariant

pub returns : goal.returns
returns c =
    let le : traced c.args.object.now ≤ c.loop-index.index = omega (arith, c.traced_fields-index-end.ensures.traced, c.loop-index-test.false) in
    sym (bad_from-end c.args.heap.now c.args.object.now c.loop-index.index le)
    ∙ c.loop-index.invariant ∙ bad_from-zero c.args.heap.now c.args.object.now
