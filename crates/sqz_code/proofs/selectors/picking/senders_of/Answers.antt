use Rattle.std.proofs.Common.{◌≡◌, true}
use Rattle.std.proofs.lemmas.List.Elements.{All-push}
use Rattle.sqz_names.specs.Names.{IsMethodName}
use Rattle.sqz_code.specs.Mentions.{MentionsOne}
use Rattle.sqz_names.proofs.PickLemmas.{ArePicked-take-push, ArePicked-take-skip}
use Rattle.sqz_code.proofs.selectors.picking.senders_of.Goals.{then-branch+in_ok-push, else-branch}
use Rattle.sqz_code.proofs.selectors.picking.senders_of.Goals as goal

pub loop-name-preserved : goal.loop-name-preserved
loop-name-preserved c =
    let memory = c.args.graph.heap.now in
    elim c.if-branch.branch [
      | then-branch+in_ok-push w ↦
          rw (w.senders-is, w.in_ok-push.ensures.items) (
            ArePicked-take-push (λ name. MentionsOne memory c.args.selectors.now name.method) c.args.methods.now
                c.loop-name.name-index _ c.loop-name-test.true c.loop-name.senders.items c.loop-name.invariant.0
                (c.in_ok-mentions_one.ensures.0 w.if-branch.true),
            All-push (IsMethodName memory c.args.graph.weak) c.loop-name.senders.items _ c.loop-name.invariant.1
                (c.requires c.loop-name.name-index _ c.loop-name-test.true),
          )
      | else-branch w ↦
          rw w.senders-is (
            ArePicked-take-skip (λ name. MentionsOne memory c.args.selectors.now name.method) c.args.methods.now
                c.loop-name.name-index _ c.loop-name-test.true c.loop-name.senders.items c.loop-name.invariant.0
                (λ one. let yes : c.in_ok-mentions_one.field-0 ≡ true = c.in_ok-mentions_one.ensures.1 one in absurd cc),
            c.loop-name.invariant.1,
          )
    ]
