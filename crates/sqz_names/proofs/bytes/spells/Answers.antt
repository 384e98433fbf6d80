use Rattle.std.proofs.Common.{◌≡◌, ◌+◌, length, Some, ap, sym, ◌∙◌, rules, arith}
use Rattle.std.specs.Prelude.{nat_eq}
use Rattle.std.specs.Cmp.Lexicographic.{pointwise}
use Rattle.std.proofs.lemmas.Cmp.{nat_list_eq_equiv}
use Rattle.std.proofs.lemmas.Grind.{common_steps}
use Rattle.sqz_image.specs.Objects.{chunk_words}
use Rattle.sqz_histogram.specs.Bytes.{first_bytes}
use Rattle.sqz_names.proofs.LayoutLemmas.{HasText-first, first_bytes-HasText}
use Rattle.sqz_names.proofs.bytes.spells.Goals as goal

pub returns-in-Some-clause-sound : goal.returns-in-Some-clause-sound
returns-in-Some-clause-sound c equal =
    let same : c.in-Some.bytes.items ≡ c.args.text.now = search rules in
    let found : first_bytes c.args.heap.now.order (length c.args.text.now + 1) (chunk_words c.args.heap.now c.args.object)
    ≡ Some c.args.text.now =
    search rules in
    HasText-first c.args.heap.now c.args.object c.args.text.now found

pub returns-in-Some-clause-complete : goal.returns-in-Some-clause-complete
returns-in-Some-clause-complete c has =
    let found : first_bytes c.args.heap.now.order (length c.args.text.now + 1) (chunk_words c.args.heap.now c.args.object)
    ≡ Some c.args.text.now = first_bytes-HasText c.args.heap.now c.args.object c.args.text.now has in
    let some : Some c.in-Some.bytes.items ≡ Some c.args.text.now = grind (arith, common_steps) in
    let same : c.as_slice.result.now ≡ c.as_bytes-text.result.now = grind (arith, common_steps) in
    c.eq.ensures ∙ ap (pointwise nat_eq c.as_slice.result.now) (sym same) ∙ nat_list_eq_equiv.refl c.as_slice.result.now
