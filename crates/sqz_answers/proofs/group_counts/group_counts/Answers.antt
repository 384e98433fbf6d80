use Rattle.std.proofs.Common.{◌∙◌, ℕ, All, List, ap, map, subst, sym, arith}
use Rattle.std.specs.Prelude.{sum_by}
use Rattle.std.proofs.lemmas.List.Sorted.{All-permutation, sum_by-IsPermutation}
use Rattle.sqz_image.specs.Objects.{object_count}
use Rattle.sqz_histogram.specs.Groups.{IsInside}
use Rattle.sqz_answers.specs.declared.group_counts.GroupCount.{GroupCount}
use Rattle.sqz_answers.specs.GroupCounts.{AreCountsByKey, count_at}
use Rattle.sqz_answers.proofs.GroupCountLemmas.{AreCountsByKey-tallies, counts-inside, sum-counts}
use Rattle.sqz_answers.proofs.group_counts.group_counts.Goals as goal

pub returns-clause-counts : goal.returns-clause-counts
returns-clause-counts c =
    let memory = c.args.graph.heap.now in
    let weak = c.args.graph.weak in
    let objects = c.args.objects.now in
    let tallies = c.in_ok-tallies.tallies in
    let counts_are = c.in_ok-counts.ensures.counts ∙ ap (λ (count : ℕ). map (count_at count) tallies.entries) c.len.ensures.objects in
    record {
      listed = c.in_ok-counts.counts.items;
      are = subst (AreCountsByKey memory weak objects) (sym counts_are)
          (AreCountsByKey-tallies memory weak objects tallies c.in_ok-counts.ensures.ordered c.in_ok-tallies.ensures.tallies);
      same = c.sort_counts.ensures.permutation;
      sorted = c.in_ok-sort_counts.ensures.sorted;
      stable = c.sort_counts.ensures.stable;
    }

pub returns-clause-within : goal.returns-clause-within
returns-clause-within c =
    let memory = c.args.graph.heap.now in
    let weak = c.args.graph.weak in
    let objects = c.args.objects.now in
    let tallies = c.in_ok-tallies.tallies in
    let Inside : GroupCount → Type 0 = λ count. IsInside (object_count memory) count.group in
    let counts_are = c.in_ok-counts.ensures.counts ∙ ap (λ (count : ℕ). map (count_at count) tallies.entries) c.len.ensures.objects in
    let sorted = sum_by-IsPermutation (λ (count : GroupCount). count.objects) c.in_ok-counts.counts.items c.sort_counts.new.counts.items
    c.sort_counts.ensures.permutation in
    let listed = ap (λ (counts : List GroupCount). sum_by (λ (count : GroupCount). count.objects) counts) counts_are in
    let total = sum-counts (object_count memory) tallies.entries in (
      All-permutation Inside c.in_ok-counts.counts.items c.sort_counts.new.counts.items c.sort_counts.ensures.permutation
          (subst (All Inside) (sym counts_are) (counts-inside memory weak objects tallies c.in_ok-counts.ensures.ordered c.in_ok-tallies.ensures.tallies)),
      omega (arith, sorted, listed, total, c.in_ok-tallies.ensures.total, c.requires.few),
    )
