use Rattle.std.proofs.Common.{◌≡◌, ◌+◌, ◌∙◌, ap, arith}
use Rattle.std.specs.Prelude.{string_bytes}
use Rattle.std.specs.BTreeMap.{get_by_text}
use Rattle.sqz_answers.specs.declared.named.NamedTotal.{NamedTotal}
use Rattle.sqz_answers.specs.declared.sizes.Size.{Size}
use Rattle.sqz_answers.proofs.SizeLemmas.{objects-fit, bytes-fit, sizes-more}
use Rattle.sqz_answers.proofs.named.sizes_by_name.Goals as goal

pub overflow_add-size : goal.overflow_add-size
overflow_add-size c =
    let named = c.named-item.result in
    let sizes = c.loop-named.sizes in
    let before_is : c.copied.result ≡ get_by_text sizes (string_bytes named.name) =
    c.copied.ensures ∙ c.get.ensures.value ∙ ap (get_by_text sizes) c.as_str.ensures.value in
    let fit = objects-fit c.args.totals.now c.loop-named.named-index named c.loop-named-test.true c.copied.result (string_bytes named.name)
    (before_is ∙ c.loop-named.invariant (string_bytes named.name)) in
    let is = ap (λ (size : Size). size.objects) c.unwrap_or-before.ensures in
    let count = ap (λ (one : NamedTotal). one.total.count) c.named-item.is in
    omega (arith, fit, is, count, c.from.ensures, c.requires.objects)

pub overflow_add-size-in-loop-named : goal.overflow_add-size-in-loop-named
overflow_add-size-in-loop-named c =
    let named = c.named-item.result in
    let sizes = c.loop-named.sizes in
    let before_is : c.copied.result ≡ get_by_text sizes (string_bytes named.name) =
    c.copied.ensures ∙ c.get.ensures.value ∙ ap (get_by_text sizes) c.as_str.ensures.value in
    let fit = bytes-fit c.args.totals.now c.loop-named.named-index named c.loop-named-test.true c.copied.result (string_bytes named.name)
    (before_is ∙ c.loop-named.invariant (string_bytes named.name)) in
    let is = ap (λ (size : Size). size.bytes) c.unwrap_or-before.ensures in
    let bytes = ap (λ (one : NamedTotal). one.total.bytes) c.named-item.is in
    omega (arith, fit, is, bytes, c.requires.bytes)

pub loop-named-preserved : goal.loop-named-preserved
loop-named-preserved c =
    let named = c.named-item.result in
    let sizes = c.loop-named.sizes in
    let before_is : c.copied.result ≡ get_by_text sizes (string_bytes named.name) =
    c.copied.ensures ∙ c.get.ensures.value ∙ ap (get_by_text sizes) c.as_str.ensures.value in
    sizes-more c.args.totals.now c.loop-named.named-index c.loop-named-test.true named c.named-item.is sizes c.insert.new.self
    c.loop-named.invariant c.copied.result before_is c.in_ok-clone.field-0 c.in_ok-clone.ensures.cases _
    (λ i. record {
      objects = (c.unwrap_or-before.ensures i).objects + c.from.ensures i;
      bytes = (c.unwrap_or-before.ensures i).bytes + named.total.bytes;
    })
    c.in_ok-insert.ensures.updates
