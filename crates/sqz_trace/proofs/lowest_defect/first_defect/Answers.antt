use Rattle.std.proofs.Common.{◌≡◌, ◌*◌, ◌-◌, ◌<◌, map, ap, ◌∙◌, arith}
use Rattle.std.specs.Int.{div_ceil}
use Rattle.std.specs.List.{range_with_len}
use Rattle.std.proofs.lemmas.Slice.Zip.{AllZip-map}
use Rattle.sqz_image.specs.Objects.{object_count}
use Rattle.sqz_trace.specs.Defects.{first_some}
use Rattle.sqz_trace.specs.Ranges.{defect_at, first_in_range}
use Rattle.rayon.specs.Numbers.{nat_range}
use Rattle.rayon.proofs.ToStd.{nat_range-All}
use Rattle.sqz_trace.proofs.FirstDefectLemmas.{first_some-reduced, range_begins, first_defect-ranges}
use Rattle.sqz_trace.proofs.lowest_defect.first_defect.Goals as goal

pub reduce-requires-clause-ready : goal.reduce-requires-clause-ready
reduce-requires-clause-ready g c κs within =
    let count = object_count c.args.heap.now in
    let ends = c.into_par_iter.ensures in
    let many = c.div_ceil-ranges.ensures ∙ ap (λ n. div_ceil n 4096) c.len.ensures.objects in
    let inside = nat_range-All (λ range. range * 4096 < count) 0 c.div_ceil-ranges.result
    (λ range low high. range_begins count range (rw many at high)) in
    rw (c.map.ensures.base, c.map.ensures.f, c.with_min_len.ensures.base, ends.0, ends.1) (λ k d lt. (inside k d lt, λ y p. tt))

pub returns : goal.returns
returns g c =
    let count = object_count c.args.heap.now in
    let ends = c.into_par_iter.ensures in
    let report = first_in_range (defect_at c.args.heap.now c.args.weak c.args.marks.now) 4096 count in
    let done = c.reduce.ensures in
    let chain = rw (c.map.ensures.base, c.map.ensures.f, c.with_min_len.ensures.base) at done.1 in
    let n = c.div_ceil-ranges.result in
    let whole : n - 0 ≡ n = omega arith in
    let many = whole ∙ c.div_ceil-ranges.ensures ∙ ap (λ k. div_ceil k 4096) c.len.ensures.objects in
    let ranges = chain.1 ∙ (λ i. nat_range (ends.0 i) (ends.1 i)) ∙ ap (range_with_len 0) many in
    first_some-reduced done.0 c.reduce.result done.2
    ∙ ap first_some (AllZip-map report chain.0 done.0 chain.2 ∙ ap (map report) ranges)
    ∙ first_defect-ranges c.args.heap.now c.args.weak c.args.marks.now c.requires
