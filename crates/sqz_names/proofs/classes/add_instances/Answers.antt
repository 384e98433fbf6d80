use Rattle.std.proofs.Common.{◌≡◌, ◌<◌, ◌≤◌, length, None, true≢false, sym, ◌∙◌, arith, rules}
use Rattle.std.proofs.lemmas.Option.{none-some, same_Some}
use Rattle.sqz_image.specs.Objects.{object_count}
use Rattle.sqz_trace.proofs.MarkedLemmas.{is_marked-inside}
use Rattle.sqz_trace.proofs.MarkingLemmas.{is_marked-keeps}
use Rattle.sqz_names.proofs.ClassLemmas.{IsClassSet-more, IsClass-instance}
use Rattle.sqz_names.proofs.ClassSetLemmas.{HasInstancesOf-add, HasInstancesOf-skip, HasNamedInstances-all}
use Rattle.sqz_names.proofs.classes.add_instances.Goals as goal
use Rattle.sqz_names.proofs.classes.add_instances.Goals.{then-contains+in-Some, else-contains}
use Rattle.sqz_names.proofs.classes.add_instances.Goals.{else-contains-via-then-contains+in-None-1, else-contains-via-else-contains}

pub loop-class-init : goal.loop-class-init
loop-class-init c = record {
  set = c.requires.old;
  keeps = λ object is. is;
  instances = λ metaclass class lt. absurd (omega (arith, lt));
}

pub loop-class-preserved : goal.loop-class-preserved
loop-class-preserved c =
    let memory = c.args.its_classes.now.graph.heap.now in
    let weak = c.args.its_classes.now.graph.weak in
    let so_far = c.loop-class.invariant in
    let classes = c.loop-class.classes in
    let metaclass = c.loop-class.class in
    elim c.if-contains.branch [
      | then-contains+in-Some w ↦
          let inside : w.in-Some.instance < length c.loop-class.classes = omega (arith, w.in-Some.ensures.inside, so_far.set.sized) in
          rw (w.classes-is, w.insert.ensures.adds)
          (record {
            set = IsClassSet-more memory weak classes _ so_far.set (IsClass-instance memory weak metaclass _ w.in-Some.ensures.sound);
            keeps = λ object is. is_marked-keeps classes _ object (so_far.keeps object is);
            instances = HasInstancesOf-add memory weak c.args.of_objects.now metaclass classes so_far.instances w.in-Some.instance inside
                (λ class is. same_Some _ _ (sym w.in-Some.is ∙ w.named_instance.ensures.complete class is));
          })
      | else-contains w ↦
          rw w.classes-is
          (record {
            set = so_far.set;
            keeps = so_far.keeps;
            instances = HasInstancesOf-skip memory weak c.args.of_objects.now metaclass classes so_far.instances
                (λ marked class is.
                elim w.else-contains.branch [
                  | else-contains-via-then-contains+in-None-1 v ↦
                      let none : v.named_instance.result ≡ None = search rules in
                      none-some class (sym none ∙ v.named_instance.ensures.complete class is)
                  | else-contains-via-else-contains v ↦
                      true≢false (sym marked ∙ sym c.contains.ensures ∙ v.if-contains.false)
                ]);
          })
    ]

pub returns-clause-instances : goal.returns-clause-instances
returns-clause-instances c =
    let memory = c.args.its_classes.now.graph.heap.now in
    let weak = c.args.its_classes.now.graph.weak in
    let all : object_count c.args.its_classes.now.graph.heap.now ≤ c.loop-class.class =
    omega (arith, c.loop-class-test.false, c.len-class-end.ensures.objects) in
    HasNamedInstances-all memory weak c.args.of_objects.now c.loop-class.classes c.loop-class.class
    (λ metaclass marked.
    omega (arith, is_marked-inside c.args.of_objects.now metaclass marked, c.requires.of_objects, all))
    c.requires.all c.loop-class.invariant.instances
