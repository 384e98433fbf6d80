use Rattle.std.proofs.Common.{◌≡◌, ℕ, ◌-◌, ◌*◌, ◌<◌, List, Vec, Global, length, map, Ok, ap, subst, sym, ◌∙◌, arith}
use Rattle.std.specs.Prelude.{Result}
use Rattle.std.specs.Int.{div_ceil}
use Rattle.std.specs.List.{AllZip, range_with_len}
use Rattle.std.specs.declared.alloc.AllocError.{AllocError}
use Rattle.sqz_image.specs.Objects.{Memory, object_count}
use Rattle.rayon.specs.Numbers.{nat_range}
use Rattle.rayon.proofs.ToStd.{nat_range-All}
use Rattle.sqz_regions.specs.Bases.{AreBasesOf}
use Rattle.sqz_regions.specs.Entries.{AreEntriesOf}
use Rattle.sqz_regions.proofs.EntryLemmas.{IsRangePart, range_begins, AreEntriesOf-all_ranges}
use Rattle.sqz_regions.proofs.EntryLemmas.{HaveRoom-entries, ArePlacesOf-entries}
use Rattle.sqz_regions.proofs.forward.Forward.build.Goals as goal
use Rattle.sqz_regions.proofs.forward.Forward.build.Goals.{In_ok-places}

pub collect-requires-clause-ready : goal.collect-requires-clause-ready
collect-requires-clause-ready g c κs within =
    let regions = c.args.regions.now in
    let marks = c.args.marks.now in
    let ends = c.into_par_iter.ensures in
    let same = ap object_count (sym c.requires.regions) in
    let many = c.div_ceil-ranges.ensures ∙ ap (λ n. div_ceil n 4096) (c.len.ensures.objects ∙ same) in
    let inside = nat_range-All
    (λ range.
    (range * 4096 < object_count regions.memory)
    × ((length marks ≡ object_count regions.memory) × AreBasesOf regions marks c.args.bases.now))
    0 c.div_ceil-ranges.result
    (λ range low high.
    let begins = range_begins (object_count regions.memory) range (rw many at high) in
    (begins, (c.requires.sized ∙ same, c.requires.bases))) in
    rw (c.map.ensures.base, c.map.ensures.f, c.with_min_len.ensures.base, ends.0, ends.1)
    (λ k d lt. (inside k d lt, λ y p. tt))

-- the table has an entry for each object
are_entries : (g : _) (c : In_ok-places g)
    → AreEntriesOf c.args.heap.now c.args.marks.now 0 (object_count c.args.heap.now) c.in_ok-places.places.items
are_entries g c =
    let cut = c.args.regions.now.cut in
    let memory = c.args.regions.now.memory in
    let marks = c.args.marks.now in
    let count = c.div_ceil-ranges.result in
    let ends = c.into_par_iter.ensures in
    let done = c.in_ok-collect.ensures in
    let chain = rw (c.map.ensures.base, c.map.ensures.f, c.with_min_len.ensures.base) at done.1 in
    let gathered = rw c.in_ok-parts.was at done.2 in
    let parts = c.in_ok-parts.parts.items in
    let whole : count - 0 ≡ count = omega arith in
    let ranges = chain.1 ∙ (λ i. nat_range (ends.0 i) (ends.1 i)) ∙ ap (range_with_len 0) whole in
    let each = gathered.1 ∙ ap (map Ok) (sym gathered.2) in
    let items : Vec ℕ Global → List ℕ = λ part. part.items in
    let is_part = IsRangePart cut memory marks AllocError items in
    let of_ranges : AllZip is_part chain.0 done.0 = chain.2 in
    let zipped =
    subst (λ (results : List (Result (Vec ℕ Global) AllocError)). AllZip is_part (range_with_len 0 count) results) each
    (subst (λ (ranges : List ℕ). AllZip is_part ranges done.0) ranges of_ranges) in
    let same = ap object_count (sym c.requires.regions) in
    let many = c.div_ceil-ranges.ensures ∙ ap (λ n. div_ceil n 4096) (c.len.ensures.objects ∙ same) in
    let all = AreEntriesOf-all_ranges AllocError items cut memory marks count parts many zipped in
    subst (λ (memory : Memory). AreEntriesOf memory marks 0 (object_count memory) c.in_ok-places.places.items) c.requires.regions
    (rw (c.in_ok-places.ensures, c.deref.ensures.value) all)

pub invariant_of-result : goal.invariant_of-result
invariant_of-result g c =
    HaveRoom-entries c.args.heap.now c.args.marks.now c.in_ok-places.places.items (are_entries g c)

pub returns-clause-places : goal.returns-clause-places
returns-clause-places g c =
    ArePlacesOf-entries c.args.heap.now c.args.marks.now c.in_ok-places.places.items
    (are_entries g (goal.at.returns-clause-places g c).In_ok-places)
