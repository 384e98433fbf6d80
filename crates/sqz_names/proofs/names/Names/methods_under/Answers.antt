use Rattle.std.proofs.Common.{◌≡◌, ◌<◌, ℕ, List, true, true≢false, length, get_or, set, All, sym, ap, subst, inl, inr, ◌∙◌, arith}
use Rattle.std.proofs.Math.Logic.{∥∥₁_elim}
use Rattle.std.proofs.lemmas.Bool.{not-false}
use Rattle.std.proofs.lemmas.List.{get_or_default, length-replicate, length-set}
use Rattle.std.proofs.lemmas.List.Elements.{All-same}
use Rattle.std.specs.Str.{bytes_eq}
use mathlib.Core.Bool.{Bool-set}
use Rattle.sqz_image.specs.Objects.{object_count}
use Rattle.sqz_trace.specs.Graph.{is_marked}
use Rattle.sqz_trace.proofs.MarkingLemmas.{is_marked-keeps, is_marked-set}
use Rattle.sqz_names.specs.ByteTexts.{whole_name}
use Rattle.sqz_names.specs.declared.method_name.MethodName.{MethodName}
use Rattle.sqz_names.specs.Structures.{HasText}
use Rattle.sqz_names.specs.Names.{AreOfClasses, IsMethodName, IsMethodUnder}
use Rattle.sqz_names.proofs.ClassLemmas.{is_marked-none}
use Rattle.sqz_trace.proofs.MarkingLemmas.{is_marked-added, is_marked-more}
use Rattle.sqz_names.proofs.MethodLemmas.{below-more, IsMethodUnder-listed}
use Rattle.sqz_names.proofs.names.Names.methods_under.Goals as goal
use Rattle.sqz_names.proofs.names.Names.methods_under.Goals.{then-is_new+in_ok-spells+then-branch, else-is_new, then-contains, else-contains}
use Rattle.sqz_names.proofs.names.Names.methods_under.Goals.{else-is_new-via-then-is_new+in_ok-spells+else-branch, else-is_new-via-else-is_new}

-- what a list of methods reads as beyond its end
abbrev none_read : MethodName
none_read = record { method = 0; class = 0; selector = 0 }

pub loop-method-init : goal.loop-method-init
loop-method-init c =
    let count = object_count c.args.self.now.graph.heap.now in
    record {
      compared = rw c.in_ok-compared.ensures (length-replicate count _);
      equal = rw c.in_ok-equal.ensures (length-replicate count _);
      named = rw c.in_ok-named.ensures (length-replicate count _);
      spelled = rw c.in_ok-equal.ensures (λ selector marked. absurd (true≢false (sym marked ∙ is_marked-none count selector)));
      all_spelled = rw c.in_ok-compared.ensures
          (λ selector marked has. absurd (true≢false (sym marked ∙ is_marked-none count selector)));
      methods = rw c.in_ok-named.ensures (λ method marked. absurd (true≢false (sym marked ∙ is_marked-none count method)));
      all_methods = λ k lt d has. absurd (omega (arith, lt));
    }

pub loop-method-preserved : goal.loop-method-preserved
loop-method-preserved c =
    let memory = c.args.self.now.graph.heap.now in
    let weak = c.args.self.now.graph.weak in
    let so_far = c.loop-method.invariant in
    let all : All (IsMethodName c.args.self.now.graph.heap.now c.args.self.now.graph.weak) c.deref-method-items.result.now =
    All-same (IsMethodName c.args.self.now.graph.heap.now c.args.self.now.graph.weak) _ _
    c.deref-method-items.ensures.value c.in_ok-methods.ensures.methods
    in
    let of_classes : AreOfClasses
    (λ class. bytes_eq (whole_name c.args.self.now.graph.heap.now c.args.self.now.graph.weak class) c.args.class.now)
    c.deref-method-items.result.now =
    All-same
    (λ name. bytes_eq (whole_name c.args.self.now.graph.heap.now c.args.self.now.graph.weak name.class) c.args.class.now ≡ true)
    _ _ c.deref-method-items.ensures.value c.in_ok-methods.ensures.classes
    in
    let lt : c.loop-method.method-index < length c.deref-method-items.result.now = omega (arith, c.loop-method-test.true) in
    let spelled : (selector : ℕ) → is_marked c.if-is_new.equal selector ≡ true
    → HasText c.args.self.now.graph.heap.now c.args.selector.now selector =
    elim c.if-is_new.branch [
      | then-is_new+in_ok-spells+then-branch w ↦
          rw (w.equal-is, w.insert.ensures.adds)
          (is_marked-more (HasText memory c.args.selector.now) _ _ so_far.spelled (w.in_ok-spells.ensures.sound w.if-branch.true))
      | else-is_new w ↦ rw w.equal-is so_far.spelled
    ]
    in
    let name : MethodName = get_or c.deref-method-items.result.now c.loop-method.method-index none_read in
    let item : IsMethodName c.args.self.now.graph.heap.now c.args.self.now.graph.weak name = all c.loop-method.method-index none_read lt in
    let in_compared : name.selector < length c.loop-method.compared = omega (arith, item.selector_inside, so_far.compared) in
    let in_equal : name.selector < length c.loop-method.equal = omega (arith, item.selector_inside, so_far.equal) in
    let in_named : name.method < length c.loop-method.named = omega (arith, item.method_inside, so_far.named) in
    let all_spelled : (selector : ℕ) → is_marked c.insert-is_new.new.self selector ≡ true
    → HasText c.args.self.now.graph.heap.now c.args.selector.now selector → is_marked c.if-is_new.equal selector ≡ true =
    λ selector marked has.
    let either = is_marked-set c.loop-method.compared name.selector selector (rw c.insert-is_new.ensures.adds at marked) in
    elim c.if-is_new.branch [
      | then-is_new+in_ok-spells+then-branch w ↦
          rw (w.equal-is, w.insert.ensures.adds)
          (elim either [
            | inl same ↦
                subst (λ (it : ℕ). is_marked (set c.loop-method.equal name.selector true) it ≡ true) (sym same)
                (is_marked-added c.loop-method.equal name.selector in_equal)
            | inr before ↦ is_marked-keeps c.loop-method.equal name.selector selector (so_far.all_spelled selector before has)
          ])
      | else-is_new w ↦
          rw w.equal-is
          (elim either [
            | inl same ↦ elim w.else-is_new.branch [
              | else-is_new-via-then-is_new+in_ok-spells+else-branch v ↦
                  absurd (true≢false (sym (v.in_ok-spells.ensures.complete (subst (HasText memory c.args.selector.now) same has))
                  ∙ v.if-branch.false))
              | else-is_new-via-else-is_new v ↦
                  let before = not-false _ (sym c.insert-is_new.ensures.new ∙ v.if-is_new.false) in
                  so_far.all_spelled selector (subst (λ (it : ℕ). is_marked c.loop-method.compared it ≡ true) (sym same) before) has
            ]
            | inr before ↦ so_far.all_spelled selector before has
          ])
    ]
    in
    record {
      compared = rw c.insert-is_new.ensures.adds (length-set _ _ _ ∙ so_far.compared);
      equal = elim c.if-is_new.branch [
        | then-is_new+in_ok-spells+then-branch w ↦ rw (w.equal-is, w.insert.ensures.adds) (length-set _ _ _ ∙ so_far.equal)
        | else-is_new w ↦ rw w.equal-is so_far.equal
      ];
      named = elim c.if-contains.branch [
        | then-contains w ↦ rw (w.named-is, w.insert-then-contains.ensures.adds) (length-set _ _ _ ∙ so_far.named)
        | else-contains w ↦ rw w.named-is so_far.named
      ];
      spelled = spelled;
      all_spelled = all_spelled;
      methods = elim c.if-contains.branch [
        | then-contains w ↦
            rw (w.named-is, w.insert-then-contains.ensures.adds)
            (is_marked-more (λ m. ∥ IsMethodUnder memory weak c.args.class.now c.args.selector.now m ∥₁) _ _ so_far.methods
            ∣ IsMethodUnder-listed memory weak c.args.class.now c.args.selector.now _ (all c.loop-method.method-index _ lt)
            (of_classes c.loop-method.method-index _ lt) (spelled _ (sym c.contains.ensures ∙ w.if-contains.true)) ∣₁)
        | else-contains w ↦ rw w.named-is so_far.methods
      ];
      all_methods = elim c.if-contains.branch [
        | then-contains w ↦
            rw (w.named-is, w.insert-then-contains.ensures.adds)
            (below-more
            (λ (k : ℕ). (d : MethodName) → HasText memory c.args.selector.now (get_or c.deref-method-items.result.now k d).selector
            → is_marked (set c.loop-method.named name.method true) (get_or c.deref-method-items.result.now k d).method ≡ true)
            c.loop-method.method-index
            (λ k before d has. is_marked-keeps c.loop-method.named name.method _ (so_far.all_methods k before d has))
            (λ d has.
            subst (λ (it : MethodName). is_marked (set c.loop-method.named name.method true) it.method ≡ true)
            (get_or_default c.deref-method-items.result.now c.loop-method.method-index none_read d lt)
            (is_marked-added c.loop-method.named name.method in_named)))
        | else-contains w ↦
            rw w.named-is
            (below-more
            (λ (k : ℕ). (d : MethodName) → HasText memory c.args.selector.now (get_or c.deref-method-items.result.now k d).selector
            → is_marked c.loop-method.named (get_or c.deref-method-items.result.now k d).method ≡ true)
            c.loop-method.method-index so_far.all_methods
            (λ d has.
            let its = subst (λ (it : MethodName). HasText memory c.args.selector.now it.selector)
            (get_or_default c.deref-method-items.result.now c.loop-method.method-index d none_read lt) has in
            absurd (true≢false (sym (all_spelled name.selector
            (rw c.insert-is_new.ensures.adds (is_marked-added c.loop-method.compared name.selector in_compared)) its)
            ∙ sym c.contains.ensures ∙ w.if-contains.false))))
      ];
    }

pub returns-clause-methods : goal.returns-clause-methods
returns-clause-methods c = record {
  sound = c.loop-method.invariant.methods;
  complete = λ method is.
      ∥∥₁_elim (c.in_ok-methods.ensures.all is.class is.of_class is.selector method is.is) (Bool-set _ _)
      (λ listed.
      let name : MethodName = record { method = method; class = listed.class; selector = is.selector } in
      let k : ℕ = listed.has.0 in
      let before : listed.has.0 < c.loop-method.method-index =
      omega (arith, listed.has.1, c.loop-method-test.false, ap length c.deref-method-items.ensures.value) in
      let at : get_or c.deref-method-items.result.now listed.has.0 name ≡ name =
      ap (λ (names : List MethodName). get_or names k name) c.deref-method-items.ensures.value ∙ listed.has.2 in
      subst (λ (it : MethodName). is_marked c.loop-method.named it.method ≡ true) at
      (c.loop-method.invariant.all_methods k before name
      (subst (λ (it : MethodName). HasText c.args.self.now.graph.heap.now c.args.selector.now it.selector) (sym at) is.spelled)));
}
