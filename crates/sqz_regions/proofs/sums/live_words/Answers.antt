use Rattle.std.proofs.Common.{◌≡◌, ◌+◌, length, ap, ◌∙◌, below_more, sum, arith}
use Rattle.std.proofs.lemmas.List.{get_or_append_left, get_or_push, length_push}
use Rattle.sqz_regions.proofs.RegionLemmas.{objects_before-rises}
use Rattle.sqz_regions.proofs.SumLemmas.{live_words_in-between, sum-AreSums}
use Rattle.sqz_trace.proofs.LiveWordLemmas.{live_words-le-words}
use Rattle.sqz_regions.specs.Bases.{AreSums}
use Rattle.sqz_trace.specs.Live.{live_words}
use Rattle.sqz_regions.proofs.sums.live_words.Goals as goal
use Rattle.sqz_regions.proofs.sums.live_words.Goals.{After-loop-region}

pub live_words_between-requires-clause-ordered : goal.live_words_between-requires-clause-ordered
live_words_between-requires-clause-ordered c =
    let regions = c.args.regions.now in
    let region = c.loop-region.region in
    omega (arith, objects_before-rises regions.cut regions.memory region (region + 1) (omega arith))

pub loop-region-preserved : goal.loop-region-preserved
loop-region-preserved c =
    let so_far = c.loop-region.invariant in
    let sums = c.loop-region.sums.items in
    let region = c.loop-region.region in
    let words = c.live_words_between.result in
    let one_more = ap length c.in_ok-push.ensures.items ∙ length_push sums words in
    let ends = c.objects-from.ensures in
    let is =
    live_words_in-between c.args.regions.now c.args.heap.now c.args.marks.now
    region c.objects-from.result.0 c.objects-from.result.1 words
    c.requires.regions ends.first ends.end c.live_words_between.ensures in
    record {
      sized = omega (arith, one_more, so_far.sized);
      each = rw c.in_ok-push.ensures.items
          (below_more _ _
          (λ region lt. get_or_append_left sums _ 0 region (omega (arith, so_far.sized)) ∙ so_far.each region lt)
          (get_or_push sums words 0 region so_far.sized ∙ is));
    }

-- the sums of all regions make all live words
whole : (c : After-loop-region) → sum c.loop-region.sums.items ≡ live_words c.args.heap.now c.args.marks.now
whole c =
    let regions = c.args.regions.now in
    let count = c.count-count.ensures in
    let end : c.loop-region.region ≡ c.count-count.result =
    omega (arith, c.loop-region-test.false, c.loop-region.auto.region-end) in
    let are : AreSums regions c.args.marks.now c.loop-region.sums.items =
    record {
      sized = c.loop-region.invariant.sized ∙ end ∙ count.count;
      each = λ region lt. c.loop-region.invariant.each region (omega (arith, lt, end, count.count));
    } in
    sum-AreSums regions c.args.heap.now c.args.marks.now c.loop-region.sums.items c.count-count.result
    c.requires.regions are count.count count.all c.requires.sized

pub returns-clause-whole : goal.returns-clause-whole
returns-clause-whole c = whole c

pub returns-clause-room : goal.returns-clause-room
returns-clause-room c =
    let words = live_words-le-words c.args.heap.now c.args.marks.now c.requires.sized in
    omega (arith, whole c, words, c.heap_bounds.ensures.within)
