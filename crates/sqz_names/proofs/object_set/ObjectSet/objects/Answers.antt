use Rattle.std.proofs.Common.{◌≡◌, ◌<◌, ℕ, true, true≢false, sym, ◌∙◌, arith}
use Rattle.std.proofs.lemmas.List.Elements.{All-push}
use Rattle.sqz_image.specs.Objects.{object_count}
use Rattle.sqz_trace.specs.Graph.{is_marked}
use Rattle.sqz_names.proofs.PickLemmas.{ArePicked-range-push, ArePicked-range-skip}
use Rattle.sqz_names.proofs.object_set.ObjectSet.objects.Goals as goal
use Rattle.sqz_names.proofs.object_set.ObjectSet.objects.Goals.{then-contains+in_ok-push, else-contains}

pub loop-object-preserved : goal.loop-object-preserved
loop-object-preserved c =
    let IsMember : ℕ → Type 0 = λ it. is_marked c.args.self.now it ≡ true in
    let object = c.loop-object.object in
    let found = c.loop-object.found.items in
    let so_far = c.loop-object.invariant in
    let lt : c.loop-object.object < object_count c.args.heap.now = omega (arith, c.loop-object-test.true, c.len-object-end.ensures.objects) in
    elim c.if-contains.branch [
      | then-contains+in_ok-push w ↦
          rw (w.found-is, w.in_ok-push.ensures.items)
          (record {
            inside = All-push (λ it. it < object_count c.args.heap.now) found object so_far.inside lt;
            members = ArePicked-range-push IsMember object found so_far.members (sym c.contains.ensures ∙ w.if-contains.true);
          })
      | else-contains w ↦
          rw w.found-is
          (record {
            inside = so_far.inside;
            members = ArePicked-range-skip IsMember object found so_far.members
                (λ is. true≢false (sym is ∙ sym c.contains.ensures ∙ w.if-contains.false));
          })
    ]
