use Rattle.std.proofs.Common.{◌≡◌, ◌<◌, ◌&&◌, ℕ, Bool, true, false, true≢false, sym, ap, ◌∙◌, arith}
use Rattle.std.proofs.lemmas.List.Elements.{All-nil}
use Rattle.sqz_image.specs.Objects.{object_count}
use Rattle.sqz_trace.specs.Graph.{is_marked}
use Rattle.sqz_names.specs.Structures.{IsClass}
use Rattle.sqz_names.specs.Names.{ListsMethodsOf}
use Rattle.sqz_names.specs.MethodOrder.{methods_by_class}
use Rattle.sqz_names.proofs.ClassLemmas.{is_marked-none}
use Rattle.sqz_names.proofs.MethodLemmas.{below-more, ListsMethodsOf-keeps}
use Rattle.sqz_names.proofs.MethodOrderLemmas.{both, first-fails, second-fails, methods_by_class-add, methods_by_class-same, methods_by_class-skip}
use Rattle.sqz_names.proofs.MethodOrderLemmas.{is_listed_before-add, is_listed_before-skip, AreClasses-same}
use Rattle.sqz_names.proofs.names.Names.methods_of_marked.Goals as goal
use Rattle.sqz_names.proofs.names.Names.methods_of_marked.Goals.{then-contains+then-has+in_ok-add, else-contains}
use Rattle.sqz_names.proofs.names.Names.methods_of_marked.Goals.{else-contains-via-then-contains+else-has, else-contains-via-else-contains}

pub loop-class-init : goal.loop-class-init
loop-class-init c = record {
  graph = c.in_ok-methods.ensures.graph;
  marked = rw c.in_ok-methods.ensures.empty (All-nil (λ name. is_marked c.args.marks.now name.class ≡ true));
  all = λ class lt. absurd (omega (arith, lt));
  listed = c.in_ok-methods.ensures.empty;
  dictionaries = λ dictionary. rw c.in_ok-methods.ensures.none
      (is_marked-none (object_count c.args.self.now.graph.heap.now) dictionary);
}

pub loop-class-preserved : goal.loop-class-preserved
loop-class-preserved c =
    let memory = c.args.self.now.graph.heap.now in
    let weak = c.args.self.now.graph.weak in
    let class = c.loop-class.class in
    let so_far = c.loop-class.invariant in
    let test : ℕ → Bool = λ class. is_marked c.args.self.now.classes class && is_marked c.args.marks.now class in
    let inside : c.loop-class.class < object_count c.args.self.now.graph.heap.now =
    omega (arith, c.loop-class-test.true, c.len-class-end.ensures.objects) in
    elim c.if-contains.branch [
      | then-contains+then-has+in_ok-add w ↦
          let passes : is_marked c.args.self.now.classes c.loop-class.class && is_marked c.args.marks.now c.loop-class.class ≡ true =
          both (sym c.contains.ensures ∙ w.if-contains.true) (sym w.has.ensures ∙ w.if-has.true) in
          let its_listed = rw so_far.graph at w.in_ok-add.ensures.listed in
          let its_dictionary = rw so_far.graph at w.in_ok-add.ensures.dictionaries in
          let its = rw so_far.graph at w.in_ok-add.ensures.all in
          rw w.methods-is
          (record {
            graph = w.in_ok-add.ensures.graph ∙ so_far.graph;
            marked =
                w.in_ok-add.ensures.classes (is_marked c.args.marks.now) (sym w.has.ensures ∙ w.if-has.true) so_far.marked;
            all = below-more
                (λ (it : ℕ). IsClass memory weak it → is_marked c.args.marks.now it ≡ true → ListsMethodsOf memory _ it) class
                (λ it lt is marked. ListsMethodsOf-keeps memory _ _ w.in_ok-add.ensures.keeps it (so_far.all it lt is marked))
                (λ is marked. its);
            listed = methods_by_class-add memory test class c.loop-class.methods.names.items so_far.listed
                c.loop-class.methods.dictionaries _ passes so_far.dictionaries its_listed;
            dictionaries = is_listed_before-add memory test class c.loop-class.methods.dictionaries so_far.dictionaries _ passes
                its_dictionary;
          })
      | else-contains w ↦
          let fails : is_marked c.args.self.now.classes c.loop-class.class && is_marked c.args.marks.now c.loop-class.class ≡ false =
          elim w.else-contains.branch [
            | else-contains-via-then-contains+else-has v ↦ second-fails _ (sym v.has.ensures ∙ v.if-has.false)
            | else-contains-via-else-contains v ↦ first-fails _ (sym c.contains.ensures ∙ v.if-contains.false)
          ] in
          rw w.methods-is
          (record {
            graph = so_far.graph;
            marked = so_far.marked;
            all = below-more
                (λ (it : ℕ). IsClass memory weak it → is_marked c.args.marks.now it ≡ true
                → ListsMethodsOf memory c.loop-class.methods.names.items it) class so_far.all
                (λ is marked. absurd (elim w.else-contains.branch [
                  | else-contains-via-then-contains+else-has v ↦
                      true≢false (sym marked ∙ sym v.has.ensures ∙ v.if-has.false)
                  | else-contains-via-else-contains v ↦
                      true≢false (sym (c.args.self.now.are_classes.complete class inside is) ∙ sym c.contains.ensures
                      ∙ v.if-contains.false)
                ]));
            listed = methods_by_class-skip memory test class c.loop-class.methods.names.items so_far.listed fails;
            dictionaries = is_listed_before-skip memory test class c.loop-class.methods.dictionaries so_far.dictionaries fails;
          })
    ]

pub returns-clause-listed : goal.returns-clause-listed
returns-clause-listed c classes are =
    let memory = c.args.self.now.graph.heap.now in
    let end : c.loop-class.class ≡ object_count c.args.self.now.graph.heap.now =
    omega (arith, c.loop-class-test.false, c.loop-class.auto.class-end, c.len-class-end.ensures.objects) in
    c.loop-class.invariant.listed
    ∙ ap (methods_by_class memory (λ class. is_marked c.args.self.now.classes class && is_marked c.args.marks.now class)) end
    ∙ methods_by_class-same memory (λ class. is_marked c.args.self.now.classes class && is_marked c.args.marks.now class)
    (λ class. is_marked classes class && is_marked c.args.marks.now class) (object_count memory)
    (AreClasses-same memory c.args.self.now.graph.weak c.args.self.now.classes classes c.args.marks.now
    c.args.self.now.are_classes are)
