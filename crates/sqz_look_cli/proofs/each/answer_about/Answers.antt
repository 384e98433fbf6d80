use Rattle.std.proofs.Common.{ap, ◌∙◌}
use Rattle.sqz_image.specs.Objects.{SavedImage}
use Rattle.sqz_look_files.proofs.WarningLemmas.{IsSilent-read, IsSilent-damage}
use Rattle.sqz_look_cli.proofs.each.answer_about.Goals as goal
use Rattle.sqz_look_cli.proofs.each.answer_about.Goals.{in-Info+in_ok-print_info-in-Info}
use Rattle.sqz_look_cli.proofs.each.answer_about.Goals.{in-Digest+in_ok-warn-in-Digest+in_ok-print_digest-in-Digest}
use Rattle.sqz_look_cli.proofs.each.answer_about.Goals.{in-Census+in_ok-warn-in-Census+in_ok-inspector-in-Census+in_ok-print_census_of-in-Census}

pub returns-after-question-clause-silent : goal.returns-after-question-clause-silent
returns-after-question-clause-silent g c zero =
    let was_read = rw c.in-Image.is at c.in_ok-read.ensures.read in
    let known = c.in_ok-subject-in-Image in
    let live = known.subject.live in
    let same_memory = known.subject.one_heap ∙ ap (λ (image : SavedImage). image.memory) known.ensures.image in
    elim c.match-question.branch [
      | in-Info+in_ok-print_info-in-Info w ↦ rw w.err-is (IsSilent-damage _ _ _ c.in-Image.read _ _ was_read)
      | in-Digest+in_ok-warn-in-Digest+in_ok-print_digest-in-Digest w ↦
          rw w.err-is (IsSilent-read _ _ _ c.in-Image.read _ _ live.marks _ _ _ was_read same_memory known.ensures.weak live.reachable
          w.warn.ensures)
      | in-Census+in_ok-warn-in-Census+in_ok-inspector-in-Census+in_ok-print_census_of-in-Census w ↦
          rw w.err-is (IsSilent-read _ _ _ c.in-Image.read _ _ live.marks _ _ _ was_read same_memory known.ensures.weak live.reachable
          w.warn-in-Census.ensures)
    ]
