use Rattle.std.proofs.Common.{◌∙◌, refl, ap, inl, inr}
use Rattle.sqz_image.specs.Objects.{SavedImage}
use Rattle.sqz_look_files.proofs.CheckLemmas.{IsChecked-read}
use Rattle.sqz_look_files.proofs.checks.check_one.Goals as goal

pub returns-in_ok-print_check_unreadable-in-Ok-Unreadable-clause-checked :
    goal.returns-in_ok-print_check_unreadable-in-Ok-Unreadable-clause-checked
returns-in_ok-print_check_unreadable-in-Ok-Unreadable-clause-checked g c =
    let was_read = rw c.in-Ok-Unreadable.field-0-is at c.in-Ok-Unreadable.ensures.read in
    inr (inl (
      refl,
      elim was_read [
        | inl none ↦ inl (inl (record { bytes = none.bytes; read = none.read; fact = inr none.fact }))
        | inr damaged ↦ inl (inr damaged)
      ],
    ))

pub returns-in_ok-check_image-in-Ok-Image-clause-checked : goal.returns-in_ok-check_image-in-Ok-Image-clause-checked
returns-in_ok-check_image-in-Ok-Image-clause-checked g c =
    let was_read = rw c.in-Ok-Image.field-0-is at c.in-Ok-Image.ensures.read in
    let subject = c.in_ok-subject-in-Ok-Image.subject in
    let known = c.in_ok-subject-in-Ok-Image.ensures in
    let same_memory = subject.one_heap ∙ ap (λ (image : SavedImage). image.memory) known.image in
    (IsChecked-read _ _ _ _ c.in-Ok-Image.read _ _ subject.live.marks c.in_ok-check_image-in-Ok-Image.field-0 _ _ was_read
    same_memory known.weak subject.live.reachable c.in_ok-check_image-in-Ok-Image.ensures).0

pub returns-in_ok-check_image-in-Ok-Image-clause-silent : goal.returns-in_ok-check_image-in-Ok-Image-clause-silent
returns-in_ok-check_image-in-Ok-Image-clause-silent g c =
    let was_read = rw c.in-Ok-Image.field-0-is at c.in-Ok-Image.ensures.read in
    let subject = c.in_ok-subject-in-Ok-Image.subject in
    let known = c.in_ok-subject-in-Ok-Image.ensures in
    let same_memory = subject.one_heap ∙ ap (λ (image : SavedImage). image.memory) known.image in
    (IsChecked-read _ _ _ _ c.in-Ok-Image.read _ _ subject.live.marks c.in_ok-check_image-in-Ok-Image.field-0 _ _ was_read
    same_memory known.weak subject.live.reachable c.in_ok-check_image-in-Ok-Image.ensures).1
