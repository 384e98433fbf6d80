use Rattle.std.proofs.Common.{◌∙◌, ℕ, ap, sym, subst, length, map, List, All}
use Rattle.std.proofs.lemmas.List.Sorted.{All-permutation}
use Rattle.sqz_image.specs.Objects.{object_count}
use Rattle.sqz_histogram.specs.declared.group.GroupTotal.{GroupTotal}
use Rattle.sqz_histogram.specs.Groups.{IsInside}
use Rattle.sqz_answers.specs.declared.retained_histograms.RetainedTotal.{RetainedTotal}
use Rattle.sqz_answers.specs.RetainedHistograms.{AreRetainedTotals, retained_total}
use Rattle.sqz_answers.proofs.TogetherLemmas.{AreRetainedTotals-rows, rows-inside}
use Rattle.sqz_answers.proofs.retained_histograms.retained_histogram.Goals as goal

pub rows_of-requires-clause-inside : goal.rows_of-requires-clause-inside
rows_of-requires-clause-inside g c =
    let count = object_count c.args.live.now.graph.heap.now in
    subst (λ (totals : List GroupTotal). All (λ total. IsInside count total.group) totals) (sym c.deref.ensures.value) c.in_ok-histogram.ensures.inside

pub rows_of-requires-clause-sized : goal.rows_of-requires-clause-sized
rows_of-requires-clause-sized g c = ap length c.deref-2.ensures.value ∙ c.in_ok-retained.ensures.sized

pub returns-clause-histogram : goal.returns-clause-histogram
returns-clause-histogram g c =
    let memory = c.args.live.now.graph.heap.now in
    let weak = c.args.live.now.graph.weak in
    let count = object_count c.args.live.now.graph.heap.now in
    let totals = c.in_ok-histogram.histogram.totals.items in
    let sums = c.in_ok-retained.retained.items in
    let rows_are = c.in_ok-rows.ensures
    ∙ ap (λ (list : List ℕ). map (retained_total count list) c.deref.result.now) c.deref-2.ensures.value
    ∙ ap (λ (list : List GroupTotal). map (retained_total count sums) list) c.deref.ensures.value in
    record {
      totals = totals;
      is = c.in_ok-histogram.ensures.histogram.totals;
      listed = c.in_ok-rows.rows.items;
      rows = subst (AreRetainedTotals memory weak totals) (sym rows_are)
          (AreRetainedTotals-rows memory weak sums c.in_ok-retained.ensures totals c.in_ok-histogram.ensures.inside);
      same = c.sort_rows.ensures.permutation;
      sorted = c.in_ok-sort_rows.ensures.sorted;
      stable = c.sort_rows.ensures.stable;
      objects = c.in_ok-histogram.ensures.histogram.objects;
      bytes = c.in_ok-histogram.ensures.histogram.bytes;
    }

pub returns-clause-inside : goal.returns-clause-inside
returns-clause-inside g c =
    let memory = c.args.live.now.graph.heap.now in
    let weak = c.args.live.now.graph.weak in
    let count = object_count c.args.live.now.graph.heap.now in
    let totals = c.in_ok-histogram.histogram.totals.items in
    let sums = c.in_ok-retained.retained.items in
    let Inside : RetainedTotal → Type 0 = λ row. IsInside count row.total.group in
    let rows_are = c.in_ok-rows.ensures
    ∙ ap (λ (list : List ℕ). map (retained_total count list) c.deref.result.now) c.deref-2.ensures.value
    ∙ ap (λ (list : List GroupTotal). map (retained_total count sums) list) c.deref.ensures.value in
    All-permutation Inside c.in_ok-rows.rows.items c.sort_rows.new.rows.items c.sort_rows.ensures.permutation
    (subst (All Inside) (sym rows_are) (rows-inside memory weak sums c.in_ok-retained.ensures totals c.in_ok-histogram.ensures.inside))
