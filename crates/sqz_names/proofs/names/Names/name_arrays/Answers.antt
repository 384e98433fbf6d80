use Rattle.std.proofs.Common.{◌≡◌, ◌<◌, ◌+◌, ◌-◌, suc, length, sym, ap, subst, ◌∙◌, arith, Option, ℕ}
use Rattle.std.proofs.lemmas.List.Elements.{All-push}
use Rattle.sqz_image.specs.Objects.{object_count}
use Rattle.sqz_image.specs.declared.slot.Slot.TheVariants.{Field}
use Rattle.sqz_trace.specs.Targets.{target}
use Rattle.sqz_names.specs.Fields.{superclass_field}
use Rattle.sqz_names.specs.InstanceVariables.{name_arrays}
use Rattle.sqz_names.proofs.InstanceVariableLemmas.{arrays_from-over, arrays_from-top, HasAdded, HasAdded-all, HasAdded-many, HasAdded-none, HasAdded-push, HasAdded-skip}
use Rattle.sqz_names.proofs.names.Names.name_arrays.Goals as goal
use Rattle.sqz_names.proofs.names.Names.name_arrays.Goals.{in-Some-field_target+in_ok-push, in_default-field_target}
use Rattle.sqz_names.proofs.names.Names.name_arrays.Goals.{else-loop-seen-test, then-loop-seen-test+in_default}

pub loop-seen-init : goal.loop-seen-init
loop-seen-init c = record {
  inside = λ k d lt. absurd (omega (arith, lt, ap length c.new-arrays.ensures.items));
  next = c.requires;
  added = HasAdded-none c.args.self.now.graph.heap.now c.args.class c.new-arrays.result.items c.new-arrays.ensures.items;
}

pub loop-seen-preserved : goal.loop-seen-preserved
loop-seen-preserved c =
    let memory = c.args.self.now.graph.heap.now in
    let class = c.in-Some.class in
    let all = name_arrays c.args.self.now.graph.heap.now c.args.class in
    let left : 100 - c.loop-seen.seen ≡ suc (100 - (c.loop-seen.seen + 1)) = omega (arith, c.loop-seen-test.true) in
    let so_far = subst (λ (next : Option ℕ). HasAdded c.args.self.now.graph.heap.now
    (name_arrays c.args.self.now.graph.heap.now c.args.class) c.loop-seen.arrays.items c.loop-seen.count
    (100 - c.loop-seen.seen) next) c.in-Some.is c.loop-seen.invariant.added in
    let added : HasAdded c.args.self.now.graph.heap.now (name_arrays c.args.self.now.graph.heap.now c.args.class)
    c.match-field_target.arrays.items c.match-field_target.count (100 - (c.loop-seen.seen + 1))
    (target c.args.self.now.graph.heap.now c.in-Some.class (Field superclass_field)) =
    elim c.match-field_target.branch [
      | in-Some-field_target+in_ok-push w ↦
          rw (w.arrays-is, w.in_ok-push.ensures.items, w.count-is)
          (HasAdded-push memory all c.loop-seen.arrays.items c.loop-seen.count (100 - c.loop-seen.seen)
          (100 - (c.loop-seen.seen + 1)) class left so_far w.in-Some-field_target.array _ _
          w.in-Some-field_target.ensures.target w.fields.ensures w.saturating_add-count.ensures)
      | in_default-field_target w ↦
          rw (w.arrays-is, w.count-is)
          (HasAdded-skip memory all c.loop-seen.arrays.items c.loop-seen.count (100 - c.loop-seen.seen)
          (100 - (c.loop-seen.seen + 1)) class left so_far
          (sym c.field_target.ensures.target ∙ w.in_default-field_target.is))
    ] in
    record {
      inside = elim c.match-field_target.branch [
        | in-Some-field_target+in_ok-push w ↦
            rw (w.arrays-is, w.in_ok-push.ensures.items)
            (All-push (λ array. array < object_count c.args.self.now.graph.heap.now) _ _ c.loop-seen.invariant.inside
            w.in-Some-field_target.ensures.inside)
        | in_default-field_target w ↦ rw w.arrays-is c.loop-seen.invariant.inside
      ];
      next = c.field_target-next.ensures.inside;
      added = rw c.field_target-next.ensures.target added;
    }

pub returns-then-count-most-clause-many : goal.returns-then-count-most-clause-many
returns-then-count-most-clause-many c none =
    let memory = c.args.self.now.graph.heap.now in
    let class = c.in-Some.class in
    let all = name_arrays c.args.self.now.graph.heap.now c.args.class in
    let left : 100 - c.loop-seen.seen ≡ suc (100 - (c.loop-seen.seen + 1)) = omega (arith, c.loop-seen-test.true) in
    let so_far = subst (λ (next : Option ℕ). HasAdded c.args.self.now.graph.heap.now
    (name_arrays c.args.self.now.graph.heap.now c.args.class) c.loop-seen.arrays.items c.loop-seen.count
    (100 - c.loop-seen.seen) next) c.in-Some.is c.loop-seen.invariant.added in
    let added : HasAdded c.args.self.now.graph.heap.now (name_arrays c.args.self.now.graph.heap.now c.args.class)
    c.match-field_target.arrays.items c.match-field_target.count (100 - (c.loop-seen.seen + 1))
    (target c.args.self.now.graph.heap.now c.in-Some.class (Field superclass_field)) =
    elim c.match-field_target.branch [
      | in-Some-field_target+in_ok-push w ↦
          rw (w.arrays-is, w.in_ok-push.ensures.items, w.count-is)
          (HasAdded-push memory all c.loop-seen.arrays.items c.loop-seen.count (100 - c.loop-seen.seen)
          (100 - (c.loop-seen.seen + 1)) class left so_far w.in-Some-field_target.array _ _
          w.in-Some-field_target.ensures.target w.fields.ensures w.saturating_add-count.ensures)
      | in_default-field_target w ↦
          rw (w.arrays-is, w.count-is)
          (HasAdded-skip memory all c.loop-seen.arrays.items c.loop-seen.count (100 - c.loop-seen.seen)
          (100 - (c.loop-seen.seen + 1)) class left so_far
          (sym c.field_target.ensures.target ∙ w.in_default-field_target.is))
    ] in
    HasAdded-many memory all c.match-field_target.arrays.items c.match-field_target.count (100 - (c.loop-seen.seen + 1))
    (target memory class (Field superclass_field)) added c.args.most c.if-count-most.true

pub returns-clause-arrays : goal.returns-clause-arrays
returns-clause-arrays c =
    let memory = c.args.self.now.graph.heap.now in
    let left = 100 - c.loop-seen.seen in
    let all = HasAdded-all memory (name_arrays memory c.args.class) c.loop-seen.arrays.items c.loop-seen.count left c.loop-seen.next
    c.loop-seen.invariant.added in
    elim c.loop-seen-test.branch [
      | else-loop-seen-test w ↦
          all (arrays_from-over memory left c.loop-seen.next (omega (arith, w.loop-seen-test.false)))
      | then-loop-seen-test+in_default w ↦ all (arrays_from-top memory left c.loop-seen.next w.in_default.is)
    ]
