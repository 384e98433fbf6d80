use Rattle.std.proofs.Common.{ap, ◌∙◌}
use Rattle.sqz_image.specs.Objects.{SavedImage}
use Rattle.sqz_look_cli.proofs.ComparisonLemmas.{HasFault-warned, IsSeenAs-live}
use Rattle.sqz_look_cli.proofs.comparison.inspector_of.Goals as goal

pub returns-clause-seen : goal.returns-clause-seen
returns-clause-seen g c =
    let subject = c.in_ok-subject in
    let made = c.in_ok-inspector in
    let same_memory =
    made.inspector.one_heap ∙ ap (λ (image : SavedImage). image.memory) (made.ensures.0 ∙ subject.ensures.image) in
    IsSeenAs-live _ _ made.inspector.live same_memory (made.ensures.1 ∙ subject.ensures.weak) made.inspector.live.reachable

pub returns-clause-silent : goal.returns-clause-silent
returns-clause-silent g c =
    let known = c.in_ok-subject in
    let live = known.subject.live in
    let same_memory = known.subject.one_heap ∙ ap (λ (image : SavedImage). image.memory) known.ensures.image in
    HasFault-warned _ _ _ _ live.marks _ _ same_memory known.ensures.weak live.reachable c.warn.ensures
