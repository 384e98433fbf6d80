use Rattle.std.proofs.Common.{◌≡◌, ◌<◌, ◌+◌, ◌∙◌, List, [], Option, ap, sym, length, option_to_list, ◌++◌, ◌∷◌, ℕ, arith, get_or}
use Rattle.std.specs.List.{filter}
use Rattle.std.proofs.lemmas.List.{append-nil}
use Rattle.sqz_image.specs.Objects.{object_count}
use Rattle.sqz_answers.specs.declared.rows.TopRow.{TopRow}
use Rattle.sqz_answers.specs.TopRows.{is_smaller, smaller_rows}
use Rattle.sqz_answers.proofs.LevelLemmas.{below-objects, below-count}
use Rattle.sqz_answers.proofs.RowLemmas.{AddsBelow-none, AddsBelow-more_no, AddsBelow-next, AddsBelow-all, AddsRows-inner}
use Rattle.sqz_answers.proofs.rows.+push_rows.Goals as goal
use Rattle.sqz_answers.proofs.rows.+push_rows.Goals.{then-is_shown+in_ok-push_rows, else-is_shown, in-Some+in_ok-push-3, in_default}

pub loop-object-init : goal.loop-object-init
loop-object-init t c = AddsBelow-none c.args.tree.now c.args.place c.push-2.new.self.items

pub push_rows-requires : goal.push_rows-requires
push_rows-requires t c =
    let top = c.args.tree.now in
    let place = c.args.place in
    let child = c.place_below.result in
    let level = c.in_ok-level.level in
    let objects = c.deref-object-items.result.now in
    let i = c.loop-object.object-index in
    let place_is = c.place_below.ensures in
    let inner : place.depth < top.limits.depth = omega (arith, c.if-place-tree.false, c.requires.deep) in
    let inside : get_or objects i 0 < object_count top.graph.heap.now =
    rw c.deref-object-items.ensures.value
    (below-objects top.graph.heap.now top.graph.weak top.dominators.now top.parts.now c.requires.tree.dominators place.object
    level.own level.below.items c.in_ok-level.ensures.is i 0 (rw c.deref-object-items.ensures.value at c.loop-object-test.true))
    in (
      omega (arith, place_is.depth, inner, c.decreases),
      (c.requires.tree, (omega (arith, place_is.object, inside), omega (arith, place_is.depth, inner))),
    )

pub loop-object-preserved : goal.loop-object-preserved
loop-object-preserved t c =
    let top = c.args.tree.now in
    let objects = c.deref-object-items.result.now in
    let i = c.loop-object.object-index in
    let there = c.loop-object-test.true in
    elim c.if-is_shown.branch [
      | then-is_shown+in_ok-push_rows w ↦
          rw w.rows-is
          (AddsBelow-next top c.args.place c.push-2.new.self.items objects i 0 there c.loop-object.rows.items c.loop-object.invariant
          (sym c.is_shown.ensures ∙ w.if-is_shown.true) w.place_below.result w.place_below.ensures.object w.place_below.ensures.depth
          w.place_below.ensures.parent w.push_rows.new.rows.items w.in_ok-push_rows.ensures)
      | else-is_shown w ↦
          rw w.rows-is
          (AddsBelow-more_no top c.args.place c.push-2.new.self.items objects i 0 there c.loop-object.rows.items c.loop-object.invariant
          (sym c.is_shown.ensures ∙ w.if-is_shown.false))
    ]

pub smaller_row-requires-clause-few : goal.smaller_row-requires-clause-few
smaller_row-requires-clause-few t c =
    let top = c.args.tree.now in
    let level = c.in_ok-level.level in
    let few = below-count top.graph.heap.now top.graph.weak top.dominators.now top.parts.now c.requires.tree.dominators c.args.place.object
    level.own level.below.items c.in_ok-level.ensures.is in
    let same : length c.deref.result.now ≡ length level.below.items = ap length c.deref.ensures.value in
    omega (arith, few, same, c.requires.tree.few)

pub returns : goal.returns
returns t c =
    let top = c.args.tree.now in
    let place = c.args.place in
    let level = c.in_ok-level.level in
    let old = c.args.rows.now.items in
    let inner : place.depth < top.limits.depth = omega (arith, c.if-place-tree.false, c.requires.deep) in
    let first_is = c.in_ok-push-2.ensures.items ∙ ap (λ (row : TopRow). old ++ row ∷ []) c.object_row-2.ensures in
    let adds = AddsBelow-all top place c.push-2.new.self.items c.deref-object-items.result.now level.below.items c.loop-object.object-index
    c.loop-object.rows.items c.loop-object.invariant c.loop-object-test.false c.deref-object-items.ensures.value in
    let smaller_is : option_to_list c.smaller_row.result ≡ smaller_rows top.dominators.now (place.depth + 1) place.object
    (filter (is_smaller top.dominators.now top.limits) level.below.items) =
    c.smaller_row.ensures
    ∙ ap (λ (below : List ℕ). smaller_rows top.dominators.now (place.depth + 1) place.object (filter (is_smaller top.dominators.now top.limits) below))
    c.deref.ensures.value
    in
    let finish = AddsRows-inner top place level c.in_ok-level.ensures old c.push-2.new.self.items c.loop-object.rows.items in
    elim c.match-smaller_row.branch [
      | in-Some+in_ok-push-3 w ↦
          rw w.rows-is
          (finish _ inner first_is adds
          (w.in_ok-push-3.ensures.items
          ∙ ap (λ (rows : List TopRow). c.loop-object.rows.items ++ rows)
          (sym (ap (λ (row : Option TopRow). option_to_list row) w.in-Some.is) ∙ smaller_is)))
      | in_default w ↦
          rw w.rows-is
          (finish _ inner first_is adds
          (sym (append-nil c.loop-object.rows.items)
          ∙ ap (λ (rows : List TopRow). c.loop-object.rows.items ++ rows)
          (sym (ap (λ (row : Option TopRow). option_to_list row) w.in_default.is) ∙ smaller_is)))
    ]
