use Rattle.std.proofs.Common.{List, subst, ap, map, ◌∙◌}
use Rattle.std.proofs.lemmas.Result.{IfOk-weaker}
use Rattle.sqz_image.specs.Objects.{object_count}
use Rattle.sqz_histogram.specs.declared.tallies.Tally.{Tally}
use Rattle.sqz_histogram.specs.Shares.{AreSharesInOrder, total_at}
use Rattle.sqz_histogram.proofs.HistogramLemmas.{IsHistogram-totals}
use Rattle.sqz_histogram.proofs.totals.histogram.Goals as goal

pub tallies_of-requires-clause-entries : goal.tallies_of-requires-clause-entries
tallies_of-requires-clause-entries g c =
    let weak = c.args.graph.weak in
    let kept = c.in_ok-entries.ensures weak (rw c.deref.ensures.value c.in_ok-classes.ensures) in
    (weak, rw c.deref-2.ensures.value kept)

pub returns : goal.returns
returns g c =
    let memory = c.args.graph.heap.now in
    let weak = c.args.graph.weak in
    let marks = c.args.marks.now in
    let tallies = c.in_ok-tallies.tallies.items in
    let shares = c.in_ok-shares.shares.items in
    let kept = c.in_ok-entries.ensures weak (rw c.deref.ensures.value c.in_ok-classes.ensures) in
    let counted = c.in_ok-tallies.ensures.tallies weak (rw c.deref-2.ensures.value kept) in
    let in_order =
    subst (λ (tallies : List Tally). AreSharesInOrder tallies shares) c.deref-3.ensures.value c.in_ok-shares.ensures in
    IfOk-weaker c.totals_of.result _ _
    (λ totals are.
    IsHistogram-totals memory weak marks tallies shares c.data.ensures.chunks counted in_order totals.items
    (are ∙ ap (map (total_at (object_count memory))) c.deref-4.ensures.value))
    c.totals_of.ensures
