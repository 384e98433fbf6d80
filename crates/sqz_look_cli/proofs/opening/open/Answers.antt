use Rattle.std.proofs.Common.{ap, ◌∙◌}
use Rattle.sqz_image.specs.Objects.{SavedImage}
use Rattle.sqz_look_files.specs.declared.session.ReadImage.{ReadImage}
use Rattle.sqz_look_files.proofs.WarningLemmas.{IsSilent-read}
use Rattle.sqz_look_cli.proofs.opening.open.Goals as goal

pub returns-in_ok-of-in-Image-clause-silent : goal.returns-in_ok-of-in-Image-clause-silent
returns-in_ok-of-in-Image-clause-silent g c =
    let was_read = rw c.in-Image.is at c.in_ok-read.ensures.read in
    let known = c.in_ok-subject-in-Image in
    let live = known.subject.live in
    let same = known.ensures.image ∙ ap (λ (read : ReadImage). read.image) c.insert.ensures.value in
    IsSilent-read _ _ _ c.in-Image.read _ _ live.marks _ _ _ was_read
    (known.subject.one_heap ∙ ap (λ (image : SavedImage). image.memory) same) known.ensures.weak live.reachable
    c.warn.ensures
