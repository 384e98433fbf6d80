use Rattle.std.proofs.Common.{◌≡◌, ◌<◌, ℕ, length, true, true≢false, set, subst, sym, ◌∙◌, arith}
use Rattle.std.specs.Prelude.{IfSome, Option}
use Rattle.std.proofs.lemmas.List.{length-set}
use Rattle.std.proofs.lemmas.Result.{IfOk-weaker}
use Rattle.sqz_trace.specs.Graph.{is_marked}
use Rattle.sqz_trace.proofs.MarkingLemmas.{is_marked-added, is_marked-keeps, is_marked-more}
use Rattle.sqz_names.specs.Texts.{HasOnlyLabel}
use Rattle.sqz_names.specs.Words.{AreNamed, IsClassCalled, IsNamed}
use Rattle.sqz_names.proofs.MethodLemmas.{below-more}
use Rattle.sqz_names.proofs.WordLemmas.{AreNamed-all, AreNamed-more, IsNamed-method}
use Rattle.sqz_names.proofs.words.named.objects_named.Goals as goal
use Rattle.sqz_names.proofs.words.named.objects_named.Goals.{then-branch, else-branch, in-Some, in_default}

pub loop-object-init : goal.loop-object-init
loop-object-init c =
    let memory = c.args.names.now.graph.heap.now in
    let weak = c.args.names.now.graph.weak in
    record {
      sized = c.in_ok-named.ensures.one_each;
      sound = λ object marked. IsNamed-method memory weak c.args.words.now object (c.in_ok-named.ensures.named.sound object marked);
      methods = c.in_ok-named.ensures.named.complete;
      classes = λ object lt. absurd (omega (arith, lt));
      labelled = λ object lt. absurd (omega (arith, lt));
    }

pub loop-object-preserved : goal.loop-object-preserved
loop-object-preserved c =
    let memory = c.args.names.now.graph.heap.now in
    let weak = c.args.names.now.graph.weak in
    let words = c.args.words.now in
    let object = c.loop-object.object in
    let so_far = c.loop-object.invariant in
    let its = c.in_ok-is_named.ensures in
    elim c.if-branch.branch [
      | then-branch w ↦
          let inside : c.loop-object.object < length c.loop-object.named =
          omega (arith, so_far.sized, c.loop-object-test.true, c.len-object-end.ensures.objects) in
          let keeps = is_marked-keeps c.loop-object.named object in
          let added = is_marked-added c.loop-object.named object inside in
          rw (w.named-is, w.insert.ensures.adds)
          (record {
            sized = length-set c.loop-object.named object true ∙ so_far.sized;
            sound = is_marked-more (λ (it : ℕ). IsNamed memory weak words it) c.loop-object.named object so_far.sound
                (its.sound w.if-branch.true);
            methods = λ it is. keeps it (so_far.methods it is);
            classes = below-more (λ (it : ℕ). IsClassCalled memory weak words it → is_marked (set c.loop-object.named object true) it ≡ true)
                object (λ it lt is. keeps it (so_far.classes it lt is)) (λ is. added);
            labelled = below-more (λ (it : ℕ). HasOnlyLabel memory weak it words → is_marked (set c.loop-object.named object true) it ≡ true)
                object (λ it lt is. keeps it (so_far.labelled it lt is)) (λ is. added);
          })
      | else-branch w ↦
          rw w.named-is
          (record {
            sized = so_far.sized;
            sound = so_far.sound;
            methods = so_far.methods;
            classes = below-more (λ (it : ℕ). IsClassCalled memory weak words it → is_marked c.loop-object.named it ≡ true) object so_far.classes
                (λ is. absurd (true≢false (sym (its.classes is) ∙ w.if-branch.false)));
            labelled = below-more (λ (it : ℕ). HasOnlyLabel memory weak it words → is_marked c.loop-object.named it ≡ true) object
                so_far.labelled (λ is. absurd (true≢false (sym (its.labels is) ∙ w.if-branch.false)));
          })
    ]

pub returns-clause-named : goal.returns-clause-named
returns-clause-named c =
    let memory = c.args.names.now.graph.heap.now in
    let weak = c.args.names.now.graph.weak in
    let words = c.args.words.now in
    let so_far = c.loop-object.invariant in
    let all : AreNamed c.args.names.now.graph.heap.now c.args.names.now.graph.weak c.args.words.now c.loop-object.named =
    AreNamed-all memory weak words c.loop-object.named so_far.sound so_far.methods
    (λ object inside. so_far.classes object (omega (arith, inside, c.loop-object-test.false, c.len-object-end.ensures.objects)))
    (λ object inside. so_far.labelled object (omega (arith, inside, c.loop-object-test.false, c.len-object-end.ensures.objects)))
    in
    let named : AreNamed c.args.names.now.graph.heap.now c.args.names.now.graph.weak c.args.words.now c.match-branch-4.named =
    elim c.match-branch-4.branch [
      | in-Some w ↦
          rw (w.named-is, w.insert-in-Some.ensures.adds)
          (AreNamed-more memory weak words c.loop-object.named w.in-Some.object all
          (subst (λ (found : Option ℕ). IfSome found (IsNamed memory weak words)) w.in-Some.is c.in_ok-object.ensures.named))
      | in_default w ↦ rw w.named-is all
    ] in
    IfOk-weaker c.objects.result _ _
    (λ objects members. record { set = c.match-branch-4.named; are_named = named; are_its = members }) c.objects.ensures.members
