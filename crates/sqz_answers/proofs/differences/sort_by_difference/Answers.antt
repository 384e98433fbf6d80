use Rattle.std.proofs.Common.{rules}
use Rattle.std.proofs.lemmas.List.Sorted.{answers_always}
use Rattle.sqz_answers.specs.Differences.{difference}
use Rattle.sqz_answers.proofs.differences.sort_by_difference.Goals as goal

pub returns-clause-sorted : goal.returns-clause-sorted
returns-clause-sorted g c =
    c.in_ok-sort_by_key.ensures.sorted (λ change. record { 0 = difference g.V.InBytes.bytes_of change })
    (answers_always _ _ _ (λ f a r h i. search rules))

pub returns-clause-stable : goal.returns-clause-stable
returns-clause-stable g c =
    c.sort_by_key.ensures.stable (λ change. record { 0 = difference g.V.InBytes.bytes_of change })
    (answers_always _ _ _ (λ f a r h i. search rules))
