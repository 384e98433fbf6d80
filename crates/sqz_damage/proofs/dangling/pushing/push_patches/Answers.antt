use Rattle.std.proofs.Common.{◌≡◌, false, ◌++◌, sym, ◌∙◌}
use Rattle.std.proofs.lemmas.List.Elements.{Contains-append_left, Contains-append_right}
use Rattle.std.proofs.lemmas.Result.{err_from_is_err_and}
use Rattle.sqz_object.specs.Chunk.{chunk_kind}
use Rattle.sqz_image.specs.Objects.{chunk_words}
use Rattle.sqz_trace.specs.Slots.{traced, class_slots, field_slots}
use Rattle.sqz_damage.specs.Dangling.{is_lost, dangling_among}
use Rattle.sqz_damage.proofs.PushLemmas.{IsPushError-wider}
use Rattle.sqz_damage.proofs.NilLemmas.{dangling_of-kept}
use Rattle.sqz_damage.proofs.dangling.pushing.push_patches.Goals as goal

pub returns-in_err-push_class-clause-refused : goal.returns-in_err-push_class-clause-refused
returns-in_err-push_class-clause-refused c =
    let memory = c.args.graph.heap.now in
    let weak = c.args.graph.weak in
    let chunk = chunk_words memory c.args.object in
    let class = dangling_among memory weak chunk (class_slots (chunk_kind chunk)) in
    let others = dangling_among memory weak chunk (field_slots 0 (traced chunk)) in
    let kept : is_lost memory weak c.args.object ≡ false = sym c.is_lost.ensures ∙ c.if-is_lost.false in
    let p = err_from_is_err_and c.from_residual-in_err-push_class.result c.from_residual-in_err-push_class.ensures.1 in
    rw (p.1, p.2, dangling_of-kept memory weak c.args.object kept)
    (IsPushError-wider c.args.nil class (class ++ others) c.in_err-push_class.field-0.0
    (λ slot. Contains-append_left class others slot) c.in_err-push_class.ensures.refused)

pub returns-in_err-push_fields-clause-refused : goal.returns-in_err-push_fields-clause-refused
returns-in_err-push_fields-clause-refused c =
    let memory = c.args.graph.heap.now in
    let weak = c.args.graph.weak in
    let chunk = chunk_words memory c.args.object in
    let class = dangling_among memory weak chunk (class_slots (chunk_kind chunk)) in
    let others = dangling_among memory weak chunk (field_slots 0 (traced chunk)) in
    let kept : is_lost memory weak c.args.object ≡ false = sym c.is_lost.ensures ∙ c.if-is_lost.false in
    let p = err_from_is_err_and c.from_residual-in_err-push_fields.result c.from_residual-in_err-push_fields.ensures.1 in
    rw (p.1, p.2, dangling_of-kept memory weak c.args.object kept)
    (IsPushError-wider c.args.nil others (class ++ others) c.in_err-push_fields.field-0.0
    (λ slot. Contains-append_right class others slot) c.in_err-push_fields.ensures.refused)
