use Rattle.std.proofs.Common.{◌≡◌, ◌<◌, ◌∙◌, ℕ, true, true≢false, length, Some, sym, arith}
use Rattle.std.proofs.lemmas.List.{length-replicate, length-set}
use Rattle.std.proofs.lemmas.Option.{none-some}
use Rattle.sqz_image.specs.Objects.{chunk_words, object_count}
use Rattle.sqz_trace.specs.Graph.{is_marked}
use Rattle.sqz_trace.specs.Strong.{class_of}
use Rattle.sqz_names.proofs.ClassLemmas.{IsClass-marked, IsClassSet-more, IsClassSet-none}
use Rattle.sqz_names.proofs.ClassSetLemmas.{AreClasses-all, HasClassesOf-add, HasClassesOf-skip}
use Rattle.sqz_names.proofs.classes.classes_in.Goals as goal
use Rattle.sqz_names.proofs.classes.classes_in.Goals.{in-Some+then-has, in-Some+else-has, in_default}

pub loop-object-init : goal.loop-object-init
loop-object-init c =
    record {
      classes = rw c.in_ok-classes.ensures (IsClassSet-none c.args.live.now.graph.heap.now c.args.live.now.graph.weak);
      sized = rw c.in_ok-of_objects.ensures (length-replicate (object_count c.args.live.now.graph.heap.now) _);
      all = λ object class lt. absurd (omega (arith, lt));
      live = λ object class lt. absurd (omega (arith, lt));
    }

pub loop-object-preserved : goal.loop-object-preserved
loop-object-preserved c =
    let memory = c.args.live.now.graph.heap.now in
    let weak = c.args.live.now.graph.weak in
    let object = c.loop-object.object in
    let of_objects = c.loop-object.of_objects in
    let classes = c.loop-object.classes in
    let so_far = c.loop-object.invariant in
    let Any : ℕ → Type 0 = λ it. Unit {0} in
    let Live : ℕ → Type 0 = λ it. is_marked c.args.live.now.marks it ≡ true in
    let found : c.class_of.result ≡ class_of c.args.live.now.graph.heap.now c.args.live.now.graph.weak (chunk_words c.args.live.now.graph.heap.now c.loop-object.object) =
    rw c.in_ok-its_classes.ensures at c.class_of.ensures.class
    in
    elim c.match-class_of.branch [
      | in-Some+then-has w ↦
          let its : class_of c.args.live.now.graph.heap.now c.args.live.now.graph.weak (chunk_words c.args.live.now.graph.heap.now c.loop-object.object) ≡ Some w.in-Some.class =
          sym found ∙ w.in-Some.is in
          let low : w.in-Some.class < object_count c.args.live.now.graph.heap.now = rw c.in_ok-its_classes.ensures at w.in-Some.ensures.inside in
          let inside : w.in-Some.class < length c.loop-object.of_objects = omega (arith, low, so_far.sized) in
          let inside_too : w.in-Some.class < length c.loop-object.classes = omega (arith, low, so_far.classes.sized) in
          rw (w.classes-is, w.insert-then-has.ensures.adds, w.of_objects-is, w.insert.ensures.adds)
          (record {
            classes = IsClassSet-more memory weak classes w.in-Some.class so_far.classes
                (IsClass-marked memory weak _ object w.in-Some.class c.args.live.now.reachable (sym w.has.ensures ∙ w.if-has.true) its);
            sized = length-set of_objects w.in-Some.class _ ∙ so_far.sized;
            all = HasClassesOf-add memory weak Any object of_objects so_far.all w.in-Some.class inside its;
            live = HasClassesOf-add memory weak Live object classes so_far.live w.in-Some.class inside_too its;
          })
      | in-Some+else-has w ↦
          let its : class_of c.args.live.now.graph.heap.now c.args.live.now.graph.weak (chunk_words c.args.live.now.graph.heap.now c.loop-object.object) ≡ Some w.in-Some.class =
          sym found ∙ w.in-Some.is in
          let low : w.in-Some.class < object_count c.args.live.now.graph.heap.now = rw c.in_ok-its_classes.ensures at w.in-Some.ensures.inside in
          let inside : w.in-Some.class < length c.loop-object.of_objects = omega (arith, low, so_far.sized) in
          rw (w.classes-is, w.of_objects-is, w.insert.ensures.adds)
          (record {
            classes = so_far.classes;
            sized = length-set of_objects w.in-Some.class _ ∙ so_far.sized;
            all = HasClassesOf-add memory weak Any object of_objects so_far.all w.in-Some.class inside its;
            live = HasClassesOf-skip memory weak Live object classes so_far.live
                (λ class marked is. true≢false (sym marked ∙ sym w.has.ensures ∙ w.if-has.false));
          })
      | in_default w ↦
          let never : (class : ℕ) → class_of c.args.live.now.graph.heap.now c.args.live.now.graph.weak (chunk_words c.args.live.now.graph.heap.now c.loop-object.object) ≡ Some class → ⊥ =
          λ class is. none-some class (sym (sym found ∙ w.in_default.is) ∙ is) in
          rw (w.classes-is, w.of_objects-is)
          (record {
            classes = so_far.classes;
            sized = so_far.sized;
            all = HasClassesOf-skip memory weak Any object of_objects so_far.all (λ class any is. never class is);
            live = HasClassesOf-skip memory weak Live object classes so_far.live (λ class marked is. never class is);
          })
    ]

pub returns-clause-classes : goal.returns-clause-classes
returns-clause-classes c =
    let memory = c.args.live.now.graph.heap.now in
    let weak = c.args.live.now.graph.weak in
    let marks = c.args.live.now.marks in
    let end : c.loop-object.object ≡ object_count c.args.live.now.graph.heap.now =
    omega (arith, c.loop-object-test.false, c.loop-object.auto.object-end, c.len-object-end.ensures.objects) in
    let live = rw end at c.loop-object.invariant.live in
    let new = rw c.in_ok-its_classes.ensures at c.add_instances.ensures.new in
    let instances = rw c.in_ok-its_classes.ensures at c.add_instances.ensures.instances in
    AreClasses-all memory weak marks _ c.args.live.now.reachable c.args.live.now.one_each new
    (λ object class lt marked is. c.add_instances.ensures.keeps class (live object class lt marked is)) instances
