use Rattle.std.proofs.Common.{true, false, sym, ◌∙◌}
use Rattle.sqz_trace.proofs.LiveWordLemmas.{length-live}
use Rattle.sqz_answers.proofs.FindingLemmas.{faults_found-none}
use Rattle.sqz_answers.proofs.findings.findings_of.Goals as goal
use Rattle.sqz_answers.proofs.findings.findings_of.Goals.{then-all+in_ok-faults, else-all+in_ok-faults-2}

pub returns-clause-live_objects : goal.returns-clause-live_objects
returns-clause-live_objects g c =
    let live = c.args.live.now in
    c.count.ensures ∙ sym (length-live live.graph.heap.now live.marks live.one_each)

pub returns-clause-sound : goal.returns-clause-sound
returns-clause-sound g c =
    let graph = c.args.live.now.graph in
    let none = faults_found-none graph.heap.now graph.weak c.args.live.now.marks c.args.live.now.one_each in
    elim c.if-all.branch [
      | then-all+in_ok-faults w ↦ rw (w.faults-is, w.in_ok-faults.ensures) (none true)
      | else-all+in_ok-faults-2 w ↦ rw (w.faults-is, w.in_ok-faults-2.ensures, w.first_fault.ensures) (none false)
    ]
