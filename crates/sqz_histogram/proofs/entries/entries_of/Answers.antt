use Rattle.std.proofs.Common.{◌≡◌, ℕ, ◌-◌, ◌<◌, List, length, ap, subst, ◌∙◌, arith}
use Rattle.std.specs.List.{AllZip, range_with_len}
use Rattle.sqz_image.specs.Objects.{object_count}
use Rattle.sqz_trace.specs.declared.weak.Weak.{Weak}
use Rattle.rayon.specs.Numbers.{nat_range}
use Rattle.rayon.proofs.ToStd.{nat_range-All}
use Rattle.rayon.proofs.ListFacts.{IfOk-then, AllZip-weaken}
use Rattle.sqz_histogram.specs.declared.entries.Entry.{Entry}
use Rattle.sqz_histogram.specs.Groups.{compact_indexes}
use Rattle.sqz_histogram.specs.Keys.{AreCompactClasses, IsEntryOf}
use Rattle.sqz_histogram.proofs.EntryLemmas.{AreEntries-zipped}
use Rattle.sqz_histogram.proofs.entries.entries_of.Goals as goal

pub collect-requires-clause-ready : goal.collect-requires-clause-ready
collect-requires-clause-ready g c κs within =
    let heap = c.args.heap.now in
    let marks = c.args.marks.now in
    let ends = c.into_par_iter.ensures in
    let inside = nat_range-All
    (λ object.
    (object < object_count heap) × ((length marks ≡ object_count heap) × (length c.args.classes.now ≡ compact_indexes)))
    0 c.len.result
    (λ object low high. (omega (arith, c.len.ensures.objects), (c.requires.sized, c.requires.classes))) in
    rw (c.map.ensures.base, c.map.ensures.f, ends.0, ends.1) (λ k d lt. (inside k d lt, λ y p. tt))

pub returns : goal.returns
returns g c =
    let heap = c.args.heap.now in
    let marks = c.args.marks.now in
    let count = c.len.result in
    let ends = c.into_par_iter.ensures in
    let IsEntryBy : ℕ → Entry → Type 0 =
    λ object entry. (weak : Weak) → AreCompactClasses heap weak c.args.classes.now → IsEntryOf heap weak marks object entry in
    let whole : count - 0 ≡ count = omega arith in
    IfOk-then c.collect.result _ _ c.collect.ensures (λ entries done.
    let chain = rw (c.map.ensures.base, c.map.ensures.f) at done.1 in
    let objects = chain.1 ∙ (λ i. nat_range (ends.0 i) (ends.1 i)) ∙ ap (range_with_len 0) whole in
    let zipped = subst (λ (objects : List ℕ). AllZip IsEntryBy objects done.0) objects chain.2 in
    λ weak kept.
    let each = AllZip-weaken IsEntryBy (IsEntryOf heap weak marks) (λ _ _ is. is weak kept) (range_with_len 0 count) done.0 zipped in
    rw done.2 (AreEntries-zipped heap weak marks count done.0 c.len.ensures.objects each))
