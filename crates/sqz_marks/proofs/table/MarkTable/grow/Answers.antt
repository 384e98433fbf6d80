use Rattle.std.proofs.Common.{◌≡◌, ◌+◌, length, ap, sym, ◌∙◌, subst}
use Rattle.sqz_image.specs.Objects.{object_count, chunk_words}
use Rattle.sqz_regions.specs.Regions.{region_at}
use Rattle.sqz_marks.specs.Core.{times, HasWon}
use Rattle.sqz_marks.specs.Table.{SharedMarks}
use Rattle.sqz_marks.proofs.CallLemmas.{count_owes}
use Rattle.sqz_marks.proofs.table.MarkTable.grow.Goals as goal

pub fetch_add-requires : goal.fetch_add-requires
fetch_add-requires g c =
    let marks = c.self.inside in
    let shared = marks.table.shared in
    let seat = c.args.seat.now in
    let self = c.args.self.now.heap in
    let is_heap = ap (λ (m : SharedMarks). m.heap) c.self.view_is in
    let memory = c.self.invariant.0 ∙ ap (λ (m : SharedMarks). m.heap.memory) c.self.view_is in
    let count = c.len.ensures.objects ∙ ap object_count memory in
    count_owes shared.table_id shared.key.0.value marks.regions.now self shared.key.1 shared.key.2 c.self.invariant.1 is_heap
    c.self.invariant.4 seat.table_id
    (c.requires.of ∙ sym (ap (λ (m : SharedMarks). m.table) c.self.view_is)) seat.id seat.me g.O.CountedObject.object c.args.region
    _ _ (ap (λ n. n + c.args.region) count)
    (subst (λ o. c.args.region ≡ region_at self.cut self.memory o) c.requires.object c.requires.region) c.requires.inside
    (c.from.ensures ∙ subst (λ o. c.args.words ≡ length (chunk_words self.memory o)) c.requires.object c.requires.words)
    (subst (HasWon seat.me.0) c.requires.object c.requires.won)
    (subst (λ o. times o seat.me.0.counted ≡ 0) c.requires.object c.requires.new)
