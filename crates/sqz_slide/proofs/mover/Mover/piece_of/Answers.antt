use Rattle.std.proofs.Common.{◌≡◌, ◌<◌, ◌+◌, ◌++◌, is_some, ℕ, List, ap, sym, ◌∙◌, arith, append_assoc, rules}
use Rattle.sqz_image.specs.Objects.{object_count}
use Rattle.sqz_regions.proofs.RegionLemmas.{objects_before-rises, objects_before-le}
use Rattle.sqz_slide.specs.Moved.{moved}
use Rattle.sqz_slide.proofs.MovedLemmas.{moved_below, moved_below_yes, moved_below_no}
use Rattle.sqz_slide.proofs.AddressLemmas.{is_marked-place}
use Rattle.sqz_slide.proofs.PieceLemmas.{moved_in-between}
use Rattle.sqz_slide.proofs.mover.Mover.piece_of.Goals as goal
use Rattle.sqz_slide.proofs.mover.Mover.piece_of.Goals.{then-is_some+in_ok-push_moved, else-is_some}

pub piece_size-room-requires-clause-ordered : goal.piece_size-room-requires-clause-ordered
piece_size-room-requires-clause-ordered c =
    let regions = c.args.regions.now in
    let rises = objects_before-rises regions.cut regions.memory c.args.region (c.args.region + 1) (omega arith) in
    omega (arith, rises, c.objects-from.ensures.first, c.objects-from.ensures.end)

pub loop-index-preserved : goal.loop-index-preserved
loop-index-preserved c marks places =
    let memory = c.args.self.now.heap.now in
    let weak = c.args.self.now.weak in
    let index = c.loop-index.index in
    let lt : c.loop-index.index < object_count c.args.self.now.heap.now =
    omega (
      arith,
      c.loop-index-test.true,
      c.objects-from.ensures.end,
      ap object_count c.requires.regions,
      objects_before-le c.args.regions.now.cut c.args.regions.now.memory (c.args.region + 1),
    ) in
    let below = moved_below memory weak marks c.objects-from.result.0 in
    let test = is_marked-place memory marks c.args.self.now.forward.now index places lt ∙ sym (ap is_some c.place.ensures.place)
    ∙ sym c.is_some.ensures in
    elim c.if-is_some.branch [
      | then-is_some+in_ok-push_moved w ↦
          (let words = c.loop-index.words.items in
          let object = w.object-object.result in
          rw w.words-is
          (ap (λ (words : List ℕ). below ++ words) (w.in_ok-push_moved.ensures marks places)
          ∙ sym (append_assoc below words (moved memory weak marks object))
          ∙ ap (λ (words : List ℕ). words ++ moved memory weak marks object) (c.loop-index.invariant marks places)
          ∙ ap (λ (chunk : List ℕ). moved_below memory weak marks index ++ moved memory weak marks chunk) w.object-object.ensures
          ∙ sym (moved_below_yes memory weak marks index lt (test ∙ w.if-is_some.true))))
      | else-is_some w ↦
          rw w.words-is (c.loop-index.invariant marks places ∙ sym (moved_below_no memory weak marks index lt (test ∙ w.if-is_some.false)))
    ]

pub returns : goal.returns
returns c marks places =
    let regions = c.args.regions.now in
    let region = c.args.region in
    let ends = c.objects-from.ensures in
    let rises = objects_before-rises regions.cut regions.memory region (region + 1) (omega arith) in
    let most = c.loop-index.auto.index-end (omega (arith, rises, ends.first, ends.end)) in
    let end : c.loop-index.index ≡ c.objects-from.result.1 = omega (arith, c.loop-index-test.false, most) in
    moved_in-between regions c.args.self.now.weak marks c.args.self.now.heap.now region c.objects-from.result.0 c.objects-from.result.1
    c.loop-index.words.items c.requires.regions ends.first ends.end
    (c.loop-index.invariant marks places ∙ ap (moved_below c.args.self.now.heap.now c.args.self.now.weak marks) end)

pub loop-index-init : goal.loop-index-init
loop-index-init c = search rules
