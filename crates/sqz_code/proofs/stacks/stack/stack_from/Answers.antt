use Rattle.std.proofs.Common.{◌<◌, ℕ, List, Option, Some, None, sym, subst}
use Rattle.std.specs.Prelude.{IfSome, slice_set}
use Rattle.std.proofs.Common.{true}
use Rattle.sqz_image.specs.Objects.{object_count}
use Rattle.sqz_code.specs.Contexts.{sender}
use Rattle.sqz_code.proofs.StackLemmas.{AreFirst, AreFirst-more, IsStack-whole}
use Rattle.sqz_code.proofs.stacks.stack.stack_from.Goals as goal

pub returns-then-listed-context-clause-stack : goal.returns-then-listed-context-clause-stack
returns-then-listed-context-clause-stack c =
    let are = rw c.in-Some.is at c.loop-next.invariant in
    IsStack-whole c.args.heap.now c.args.listed.now c.args.first c.loop-next.listed (Some c.in-Some.context)
    c.loop-next.contexts.items are c.if-listed-context.true

pub loop-next-preserved : goal.loop-next-preserved
loop-next-preserved c =
    let memory = c.args.heap.now in
    let context = c.in-Some.context in
    let are = rw c.in-Some.is at c.loop-next.invariant in
    let sent = c.sender_of-next.ensures in
    let listed = slice_set c.loop-next.listed context true in
    let more = AreFirst-more memory c.args.listed.now c.args.first c.loop-next.listed context c.loop-next.contexts.items are
    c.if-listed-context.false
    (subst (λ (found : Option ℕ). IfSome found (λ it. it < object_count memory)) sent.sender sent.inside)
    in
    subst (λ (next : Option ℕ). AreFirst memory c.args.listed.now c.args.first listed next c.push.new.self.items) (sym sent.sender)
    (subst (λ (items : List ℕ). AreFirst memory c.args.listed.now c.args.first listed (sender memory context) items) (sym c.in_ok-push.ensures.items) more)

pub returns-clause-stack : goal.returns-clause-stack
returns-clause-stack c =
    let are = rw c.in_default.is at c.loop-next.invariant in
    IsStack-whole c.args.heap.now c.args.listed.now c.args.first c.loop-next.listed None c.loop-next.contexts.items are tt
