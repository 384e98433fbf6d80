use Rattle.std.proofs.Common.{◌≡◌, ◌∙◌, ◌*◌, Bool, List, length, map, refl, sym, ap, subst, arith}
use Rattle.std.specs.Prelude.{sum_by}
use Rattle.sqz_image.specs.Objects.{Memory, objects}
use Rattle.sqz_trace.specs.declared.weak.Weak.{Weak}
use Rattle.sqz_trace.specs.Live.{live, live_words}
use Rattle.sqz_trace.proofs.LiveWordLemmas.{words_in-marked, words_in-le-concat}
use Rattle.sqz_trace.proofs.MarkedLemmas.{length-marked}
use Rattle.sqz_histogram.specs.declared.group.GroupTotal.{GroupTotal}
use Rattle.sqz_histogram.specs.Histogram.{IsHistogram}
use Rattle.sqz_histogram.proofs.SumLemmas.{sum_by-map, histogram_counts, histogram_bytes}
use Rattle.sqz_answers.specs.declared.named.NamedTotal.{NamedTotal}
use Rattle.sqz_look_diff.proofs.classes.sizes_of.Goals as goal

-- the totals of a histogram have the same sums with names
module _ (memory : Memory) (weak : Weak) (marks : List Bool) (totals : List GroupTotal) (is : IsHistogram memory weak marks totals)
    (named : List NamedTotal) (are : map (λ one. one.total) named ≡ totals) where
  sum-counts : sum_by (λ one. one.total.count) named ≡ length (live memory marks)
  sum-counts =
      sym (sum_by-map (λ (total : GroupTotal). total.count) (λ (one : NamedTotal). one.total) (λ one. one.total.count) (λ one. refl) named)
      ∙ ap (sum_by (λ (total : GroupTotal). total.count)) are
      ∙ histogram_counts memory weak marks totals is

  sum-bytes : sum_by (λ one. one.total.bytes) named ≡ 4 * live_words memory marks
  sum-bytes =
      sym (sum_by-map (λ (total : GroupTotal). total.bytes) (λ (one : NamedTotal). one.total) (λ one. one.total.bytes) (λ one. refl) named)
      ∙ ap (sum_by (λ (total : GroupTotal). total.bytes)) are
      ∙ histogram_bytes memory weak marks totals is

pub sizes_by_name-requires-clause-objects : goal.sizes_by_name-requires-clause-objects
sizes_by_name-requires-clause-objects g c =
    let live = c.args.inspector.now.live in
    let memory = live.graph.heap.now in
    let sum = sum-counts memory live.graph.weak live.marks c.in_ok-histogram.histogram.totals.items c.in_ok-histogram.ensures.histogram.totals
    c.deref-2.result.now (ap (map (λ (one : NamedTotal). one.total)) c.deref-2.ensures.value ∙ c.in_ok-named.ensures ∙ c.deref.ensures.value) in
    omega (arith, sum, length-marked live.marks (objects memory), c.heap_bounds.ensures.objects)

pub sizes_by_name-requires-clause-bytes : goal.sizes_by_name-requires-clause-bytes
sizes_by_name-requires-clause-bytes g c =
    let live = c.args.inspector.now.live in
    let memory = live.graph.heap.now in
    let sum = sum-bytes memory live.graph.weak live.marks c.in_ok-histogram.histogram.totals.items c.in_ok-histogram.ensures.histogram.totals
    c.deref-2.result.now (ap (map (λ (one : NamedTotal). one.total)) c.deref-2.ensures.value ∙ c.in_ok-named.ensures ∙ c.deref.ensures.value) in
    omega (arith, sum, words_in-marked live.marks (objects memory), words_in-le-concat memory.chunks, c.heap_bounds.ensures.words)

pub returns : goal.returns
returns g c =
    let live = c.args.inspector.now.live in
    record {
      named = c.deref-2.result.now;
      histogram = subst (IsHistogram live.graph.heap.now live.graph.weak live.marks)
          (sym (ap (map (λ (one : NamedTotal). one.total)) c.deref-2.ensures.value ∙ c.in_ok-named.ensures ∙ c.deref.ensures.value))
          c.in_ok-histogram.ensures.histogram.totals;
      by_name = c.in_ok-sizes.ensures;
    }
