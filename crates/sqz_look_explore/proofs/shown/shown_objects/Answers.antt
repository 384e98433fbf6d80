use Rattle.std.proofs.Common.{◌<◌, ◌∙◌, ap, arith, cond, sym, Some, None}
use Rattle.std.proofs.lemmas.List.Elements.{All-push}
use Rattle.sqz_facts.proofs.RangeLemmas.{filter_map-none, filter_map-some}
use Rattle.sqz_image.specs.Objects.{object_count}
use Rattle.sqz_look_explore.specs.Shown.{if_shown}
use Rattle.sqz_look_explore.proofs.shown.shown_objects.Goals as goal
use Rattle.sqz_look_explore.proofs.shown.shown_objects.Goals.{then-is_shown+in_ok-push, else-is_shown}

pub loop-object-preserved : goal.loop-object-preserved
loop-object-preserved c =
    let live = c.args.live.now in
    let object = c.loop-object.object in
    let shown = if_shown live.marks c.args.dominators.now c.args.least in
    elim c.if-is_shown.branch [
      | then-is_shown+in_ok-push w ↦
          let is = sym c.is_shown.ensures ∙ w.if-is_shown.true in
          rw (w.shown-is, w.in_ok-push.ensures.items)
          record {
            shown = rw c.loop-object.invariant.shown
                (sym (filter_map-some shown object object (ap (λ b. cond b (Some object) None) is)));
            inside = All-push (λ it. it < object_count live.graph.heap.now) c.loop-object.shown.items object
                c.loop-object.invariant.inside
                (omega (arith, c.loop-object-test.true, c.loop-object.auto.object-end, c.len-object-end.ensures.objects));
          }
      | else-is_shown w ↦
          let isnt = sym c.is_shown.ensures ∙ w.if-is_shown.false in
          rw w.shown-is
          record {
            shown = rw c.loop-object.invariant.shown
                (sym (filter_map-none shown object (ap (λ b. cond b (Some object) None) isnt)));
            inside = c.loop-object.invariant.inside;
          }
    ]
