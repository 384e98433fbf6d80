use Rattle.std.proofs.Common.{◌<◌, ◌∙◌, ap, arith, cond, sym, Some, None}
use Rattle.std.proofs.lemmas.List.Elements.{All-push}
use Rattle.sqz_facts.proofs.RangeLemmas.{filter_map-none, filter_map-some}
use Rattle.sqz_image.specs.Objects.{object_count}
use Rattle.sqz_code.specs.Processes.{if_live_of}
use Rattle.sqz_code.proofs.stacks.processes.processes_of.Goals as goal
use Rattle.sqz_code.proofs.stacks.processes.processes_of.Goals.{then-is_live_of+in_ok-push, else-is_live_of}

pub loop-object-preserved : goal.loop-object-preserved
loop-object-preserved c =
    let live = c.args.live.now in
    let memory = live.graph.heap.now in
    let object = c.loop-object.object in
    let process = if_live_of memory live.graph.weak live.marks c.match-active_process.class in
    elim c.if-is_live_of.branch [
      | then-is_live_of+in_ok-push w ↦
          let is = sym c.is_live_of.ensures ∙ w.if-is_live_of.true in
          rw (w.processes-is, w.in_ok-push.ensures.items)
          record {
            processes = rw c.loop-object.invariant.processes
                (sym (filter_map-some process object object (ap (λ b. cond b (Some object) None) is)));
            inside = All-push (λ it. it < object_count memory) c.loop-object.processes.items object c.loop-object.invariant.inside
                (omega (arith, c.loop-object-test.true, c.loop-object.auto.object-end, c.len-object-end.ensures.objects));
          }
      | else-is_live_of w ↦
          let isnt = sym c.is_live_of.ensures ∙ w.if-is_live_of.false in
          rw w.processes-is
          record {
            processes = rw c.loop-object.invariant.processes
                (sym (filter_map-none process object (ap (λ b. cond b (Some object) None) isnt)));
            inside = c.loop-object.invariant.inside;
          }
    ]
