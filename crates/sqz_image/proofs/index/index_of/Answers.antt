use Rattle.std.proofs.Common.{◌≡◌, ◌+◌, length, sym, ◌∙◌, arith, inr}
use Rattle.sqz_image.proofs.IndexLemmas.{start, step_free, step_object, HasNoPartition-at, whole_index}
use Rattle.sqz_image.proofs.IndexLemmas.{as_many, few_starts, headers_in, is_above}
use Rattle.sqz_image.proofs.index.index_of.Goals as goal

pub loop-p-init : goal.loop-p-init
loop-p-init c = rw (c.new-starts.ensures.items, c.new-headers.ensures.items) (start c.args.words.now)

pub returns-in-Err-clause-refused : goal.returns-in-Err-clause-refused
returns-in-Err-clause-refused c =
    inr
    (rw c.refusal_of.ensures
    (HasNoPartition-at c.loop-p.invariant c.in-Err.reason (omega (arith, c.len.ensures, c.loop-p-test.true)) c.in-Err.ensures.fault))

pub overflow_cast-len : goal.overflow_cast-len
overflow_cast-len c =
    let count : c.len-in_default.result ≡ length c.loop-p.starts.items = c.len-in_default.ensures ∙ c.loop-p.starts.ok.0 in
    omega (arith, count, few_starts c.loop-p.invariant, c.loop-p.invariant.inside, c.requires.few)

pub loop-p-preserved-in-Free : goal.loop-p-preserved-in-Free
loop-p-preserved-in-Free c = step_free c.loop-p.invariant c.in-Ok.chunk c.in-Ok.ensures.chunk c.in-Free.is

pub loop-p-preserved : goal.loop-p-preserved
loop-p-preserved c =
    let so_far = c.loop-p.invariant in
    let chunk = c.in-Ok.chunk in
    let count : c.len-in_default.result ≡ length c.loop-p.starts.items = c.len-in_default.ensures ∙ c.loop-p.starts.ok.0 in
    let filled =
    c.in_ok-add-in_default.ensures (headers_in so_far.chunks) so_far.base_headers
    (as_many so_far ∙ sym count) (is_above so_far (c.loop-p.p + chunk.before) (omega arith)) in
    rw c.in_ok-push-in_default.ensures.items
    (step_object so_far chunk c.in-Ok.ensures.chunk c.in_default.not-Free filled c.new.result c.new.ensures.first
    (λ followed. sym c.begins_object.ensures ∙ c.new.ensures.followed.0 followed))

pub returns-clause-index : goal.returns-clause-index
returns-clause-index c =
    whole_index c.loop-p.invariant (omega (arith, c.len.ensures, c.loop-p-test.false))
