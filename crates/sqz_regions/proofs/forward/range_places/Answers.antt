use Rattle.std.proofs.Common.{◌≡◌, ◌+◌, ◌*◌, ◌<◌, sym, ap, subst, ◌∙◌, arith, ℕ}
use Rattle.sqz_image.specs.Objects.{Memory, object_count}
use Rattle.sqz_trace.specs.Live.{live_words_below}
use Rattle.sqz_regions.specs.Regions.{objects_before}
use Rattle.sqz_regions.specs.Entries.{range_begin, AreEntriesOfRange}
use Rattle.rayon.proofs.ListFacts.{IfOk-then}
use Rattle.sqz_regions.proofs.SumLemmas.{base_of_region}
use Rattle.sqz_regions.proofs.EntryLemmas.{range_begin-inside, range_begin-rises, AreEntriesOfRange-between}
use Rattle.sqz_regions.proofs.forward.range_places.Goals as goal
use Rattle.sqz_regions.proofs.forward.range_places.Goals.{After-heap_bounds}

-- the range's first object is the one where it begins
first_begins : (c : After-heap_bounds)
    → c.objects-from.result.0 ≡ range_begin c.args.regions.now.cut c.args.regions.now.memory c.args.range
first_begins c =
    let regions = c.args.regions.now in
    let inside : c.args.range * 4096 < object_count regions.memory = c.requires.inside in
    c.objects-from.ensures.first
    ∙ ap (objects_before regions.cut regions.memory) c.region-region.ensures.region
    ∙ sym (range_begin-inside regions.cut regions.memory c.args.range inside)

pub places_between-requires-clause-ordered : goal.places_between-requires-clause-ordered
places_between-requires-clause-ordered c =
    let regions = c.args.regions.now in
    let begins = first_begins (goal.at.places_between-requires-clause-ordered c).After-heap_bounds in
    omega (arith, begins, c.first_of_range-to.ensures, range_begin-rises regions.cut regions.memory c.args.range)

pub places_between-requires-clause-begins : goal.places_between-requires-clause-begins
places_between-requires-clause-begins c =
    let regions = c.args.regions.now in
    let marks = c.args.marks.now in
    let region = c.region-region.result in
    let first = c.objects-from.ensures.first in
    base_of_region regions marks c.args.bases.now c.requires.bases region c.region-region.ensures.inside
    ∙ ap (λ (object : ℕ). regions.memory.base + 4 * live_words_below regions.memory marks object) (sym first)
    ∙ ap (λ (memory : Memory). memory.base + 4 * live_words_below memory marks c.objects-from.result.0)
    (sym c.heap-heap.ensures)

pub returns : goal.returns
returns c =
    let begins = first_begins (goal.at.returns c).After-heap_bounds in
    IfOk-then c.places_between.result _ _ c.places_between.ensures (λ places are.
    subst (λ (memory : Memory). AreEntriesOfRange c.args.regions.now.cut memory c.args.marks.now c.args.range places.items)
    c.heap-heap.ensures
    (AreEntriesOfRange-between c.args.regions.now c.heap-heap.result.now c.args.marks.now c.args.range
    c.objects-from.result.0 c.first_of_range-to.result places.items
    (sym c.heap-heap.ensures) begins c.first_of_range-to.ensures are))
