use Rattle.std.proofs.Common.{◌≡◌, ◌<◌, ◌∙◌, sym, true≢false, arith, rules}
use Rattle.std.proofs.lemmas.List.Sorted.{answers_always}
use Rattle.sqz_image.specs.Objects.{object_count}
use Rattle.sqz_facts.proofs.MemberLemmas.{sort_key, AreMembers-sorted, AreMembersBelow-more_yes, AreMembersBelow-more_no}
use Rattle.sqz_facts.proofs.members.members_of.Goals as goal
use Rattle.sqz_facts.proofs.members.members_of.Goals.{then-has+then-eq+in_ok-push, else-has}
use Rattle.sqz_facts.proofs.members.members_of.Goals.{else-has-via-then-has+else-eq, else-has-via-else-has}

pub loop-object-preserved : goal.loop-object-preserved
loop-object-preserved c =
    let memory = c.args.graph.heap.now in
    let weak = c.args.graph.weak in
    let marks = c.args.marks.now in
    let group = c.args.group in
    let object = c.loop-object.object in
    let members = c.loop-object.members.items in
    let so_far = c.loop-object.invariant in
    let lt : c.loop-object.object < object_count c.args.graph.heap.now = omega (arith, c.len-object-end.ensures.objects) in
    elim c.if-has.branch [
      | then-has+then-eq+in_ok-push w ↦
          let same : w.group_of.result ≡ c.args.group = search rules in
          let its_group = rw c.in_ok-classes.ensures at w.group_of.ensures in
          rw (w.members-is, w.in_ok-push.ensures.items)
          (AreMembersBelow-more_yes memory weak marks group object members so_far
          (record { inside = lt; marked = sym c.has.ensures ∙ w.if-has.true; of_group = sym its_group ∙ same })
          _ w.chunk_length-words.ensures.length)
      | else-has w ↦
          rw w.members-is
          (AreMembersBelow-more_no memory weak marks group object members so_far
          (λ is.
          elim w.else-has.branch [
            | else-has-via-then-has+else-eq v ↦
                let differ : v.group_of.result ≡ c.args.group → ⊥ = search rules in
                let its_group = rw c.in_ok-classes.ensures at v.group_of.ensures in
                differ (its_group ∙ is.of_group)
            | else-has-via-else-has v ↦ true≢false (sym is.marked ∙ sym c.has.ensures ∙ v.if-has.false)
          ]))
    ]

pub returns : goal.returns
returns c =
    let done = c.sort_unstable_by_key.ensures in
    let end : c.loop-object.object ≡ object_count c.args.graph.heap.now =
    omega (arith, c.loop-object-test.false, c.len-object-end.ensures.objects)
    in
    let all = rw end at c.loop-object.invariant in
    AreMembers-sorted c.args.graph.heap.now c.args.graph.weak c.args.marks.now c.args.group c.loop-object.members.items
    c.sort_unstable_by_key.new.self.items all done.permutation
    (done.sorted sort_key (answers_always _ _ _ (λ f a r g h. search rules)))
