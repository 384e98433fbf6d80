use Rattle.std.proofs.Common.{◌<◌, rules}
use Rattle.std.proofs.lemmas.List.Sorted.{All-permutation, answers_always}
use Rattle.sqz_alike.specs.declared.holder.Holder.{Holder}
use Rattle.sqz_alike.specs.Holders.{growth_of}
use Rattle.sqz_alike.proofs.holders.sort_by_growth.Goals as goal

pub returns-clause-sorted : goal.returns-clause-sorted
returns-clause-sorted c =
    c.in_ok-sort_by_key.ensures.sorted (λ holder. record { 0 = growth_of holder })
    (answers_always _ _ _ (λ f a r h i. search rules))

pub returns-clause-stable : goal.returns-clause-stable
returns-clause-stable c =
    c.sort_by_key.ensures.stable (λ holder. record { 0 = growth_of holder })
    (answers_always _ _ _ (λ f a r h i. search rules))

pub returns-clause-inside : goal.returns-clause-inside
returns-clause-inside c count =
    All-permutation (λ (holder : Holder). holder.object < count) _ _ c.sort_by_key.ensures.permutation
