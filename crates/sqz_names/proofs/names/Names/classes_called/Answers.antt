use Rattle.std.proofs.Common.{true≢false, sym, ◌∙◌}
use Rattle.std.proofs.lemmas.List.Elements.{All-push}
use Rattle.sqz_names.specs.Words.{IsClassCalled}
use Rattle.sqz_names.proofs.PickLemmas.{ArePicked-range-push, ArePicked-range-skip}
use Rattle.sqz_names.proofs.names.Names.classes_called.Goals as goal
use Rattle.sqz_names.proofs.names.Names.classes_called.Goals.{then-branch+in_ok-push, else-branch}

pub loop-class-preserved : goal.loop-class-preserved
loop-class-preserved c =
    let IsCalled = IsClassCalled c.args.self.now.graph.heap.now c.args.self.now.graph.weak c.args.words.now in
    let class = c.loop-class.class in
    let found = c.loop-class.found.items in
    let so_far = c.loop-class.invariant in
    elim c.if-branch.branch [
      | then-branch+in_ok-push w ↦
          let is = c.in_ok-is_class_called.ensures.sound w.if-branch.true in
          rw (w.found-is, w.in_ok-push.ensures.items)
          (record {
            named = All-push IsCalled found class so_far.named is;
            all = ArePicked-range-push IsCalled class found so_far.all is;
          })
      | else-branch w ↦
          rw w.found-is
          (record {
            named = so_far.named;
            all = ArePicked-range-skip IsCalled class found so_far.all
                (λ is. true≢false (sym (c.in_ok-is_class_called.ensures.complete is) ∙ w.if-branch.false));
          })
    ]
