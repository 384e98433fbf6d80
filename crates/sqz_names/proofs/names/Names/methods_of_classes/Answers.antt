use Rattle.std.proofs.Common.{ℕ, true≢false, sym, ◌∙◌, arith}
use Rattle.std.specs.Str.{bytes_eq}
use Rattle.std.proofs.lemmas.Slice.Eq.{bytes_eq-Decides}
use Rattle.sqz_names.specs.ByteTexts.{whole_name}
use Rattle.sqz_names.specs.Names.{IsClassNamed, ListsMethodsOf}
use Rattle.sqz_names.proofs.MethodLemmas.{below-more, ListsMethodsOf-keeps}
use Rattle.sqz_names.proofs.names.Names.methods_of_classes.Goals as goal
use Rattle.sqz_names.proofs.names.Names.methods_of_classes.Goals.{then-branch+in_ok-add, else-branch}

pub loop-class-preserved : goal.loop-class-preserved
loop-class-preserved c =
    let memory = c.args.self.now.graph.heap.now in
    let weak = c.args.self.now.graph.weak in
    let name = c.args.name.now in
    let class = c.loop-class.class in
    let so_far = c.loop-class.invariant in
    elim c.if-branch.branch [
      | then-branch+in_ok-add w ↦
          let its = rw so_far.graph at w.in_ok-add.ensures.all in
          let is = c.in_ok-is_class_named.ensures.sound w.if-branch.true in
          rw w.methods-is
          (record {
            graph = w.in_ok-add.ensures.graph ∙ so_far.graph;
            named = w.in_ok-add.ensures.classes (λ (it : ℕ). bytes_eq (whole_name memory weak it) name)
                ((bytes_eq-Decides (whole_name memory weak class) name).1 is.named) so_far.named;
            all = below-more
                (λ (it : ℕ). IsClassNamed memory weak name it → ListsMethodsOf memory _ it) class
                (λ it lt is. ListsMethodsOf-keeps memory _ _ w.in_ok-add.ensures.keeps it (so_far.all it lt is))
                (λ is. its);
          })
      | else-branch w ↦
          rw w.methods-is
          (record {
            graph = so_far.graph;
            named = so_far.named;
            all = below-more
                (λ (it : ℕ). IsClassNamed memory weak name it → ListsMethodsOf memory c.loop-class.methods.names.items it) class so_far.all
                (λ is. absurd (true≢false (sym (c.in_ok-is_class_named.ensures.complete is) ∙ w.if-branch.false)));
          })
    ]

pub returns-clause-all : goal.returns-clause-all
returns-clause-all c class is = c.loop-class.invariant.all class (omega (arith, is.inside, c.loop-class-test.false, c.len-class-end.ensures.objects)) is
