use Rattle.std.proofs.Common.{ap, ◌∙◌}
use Rattle.sqz_image.specs.Objects.{SavedImage}
use Rattle.sqz_look_files.proofs.WarningLemmas.{IsSilent-large, IsSilent-read, IsSilent-then}
use Rattle.sqz_look_cli.proofs.page.explore.Goals as goal

pub returns-in_ok-print_explore-in-Image-clause-silent : goal.returns-in_ok-print_explore-in-Image-clause-silent
returns-in_ok-print_explore-in-Image-clause-silent g c zero =
    let was_read = rw c.in-Image.is at c.in_ok-read.ensures.read in
    let known = c.in_ok-subject-in-Image in
    let live = known.subject.live in
    let same_memory = known.subject.one_heap ∙ ap (λ (image : SavedImage). image.memory) known.ensures.image in
    IsSilent-then _ _ _ _ _ _
    (IsSilent-read _ _ _ c.in-Image.read _ _ live.marks _ _ _ was_read same_memory known.ensures.weak live.reachable
    c.warn.ensures)
    (IsSilent-large _ _ _ c.in-Image.read _ _ _ (rw c.in-Image.is at c.in_ok-read.ensures.image) same_memory
    c.warn_of_page.ensures)
