use Rattle.std.proofs.Common.{◌+◌, ◌++◌, List, ℕ, take, ap, sym, subst, ◌∙◌}
use Rattle.sqz_code.specs.Mentions.{AreAllMentioned, AreMentioned}
use Rattle.sqz_code.proofs.JoinLemmas.{AreJoined-take-push}
use Rattle.sqz_code.proofs.selectors.picking.mark_mentioned.Goals as goal

pub loop-name-preserved : goal.loop-name-preserved
loop-name-preserved c =
    let memory = c.args.graph.heap.now in
    let methods = c.args.methods.now in
    let its = c.in_ok-mentioned_by.field-0.items in
    let more = AreJoined-take-push (λ name its. AreMentioned memory name.method its) methods c.loop-name.name-index _
    c.loop-name-test.true its c.loop-name.mentioned.items c.in_ok-mentioned_by.ensures c.loop-name.invariant
    in
    subst (AreAllMentioned memory (take (c.loop-name.name-index + 1) methods))
    (sym (c.in_ok-extend_from_slice.ensures.items ∙ ap (λ (l : List ℕ). c.loop-name.mentioned.items ++ l) c.deref.ensures.value)) more
