use Rattle.std.proofs.Common.{rules}
use Rattle.std.proofs.lemmas.List.Sorted.{answers_always}
use Rattle.sqz_answers.proofs.retained_histograms.sort_rows.Goals as goal

pub returns-clause-sorted : goal.returns-clause-sorted
returns-clause-sorted c =
    c.in_ok-sort_by_key.ensures.sorted (λ row. record { 0 = row.retained })
    (answers_always _ _ _ (λ f a r h i. search rules))

pub returns-clause-stable : goal.returns-clause-stable
returns-clause-stable c =
    c.sort_by_key.ensures.stable (λ row. record { 0 = row.retained })
    (answers_always _ _ _ (λ f a r h i. search rules))
