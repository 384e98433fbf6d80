use Rattle.std.proofs.Common.{◌≡◌, ◌≤◌, ◌+◌, ◌-◌, ℕ, length, true, true≢false, sym, ap, ◌∙◌, append-nil, arith}
use Rattle.std.proofs.lemmas.List.Elements.{All-push, All-same, Contains-append_left}
use Rattle.std.proofs.lemmas.Option.{none-some, same_Some}
use Rattle.sqz_object.specs.Chunk.{fields}
use Rattle.sqz_image.specs.Objects.{chunk_words}
use Rattle.sqz_names.specs.Fields.{first_selector_field}
use Rattle.sqz_names.specs.Structures.{is_bytes, is_method, IsMethodIn}
use Rattle.sqz_names.specs.Names.{IsMethodName}
use Rattle.sqz_names.proofs.MethodLemmas.{IsMethodIn-method, IsMethodIn-selector, ListsBelow-push, ListsBelow-skip, ListsDictionary-all}
use Rattle.sqz_names.proofs.MethodOrderLemmas.{method_under-none, method_under-some, method_under-uncompiled, method_under-unnamed, method_under-untexted}
use Rattle.sqz_names.proofs.MethodOrderLemmas.{methods_below-push, methods_below-skip, methods_in-below, methods_in-none}
use Rattle.sqz_names.proofs.methods.push_methods.Goals as goal
use Rattle.sqz_names.proofs.methods.push_methods.Goals.{then-is_bytes+then-is_method+in_ok-push, else-is_bytes}
use Rattle.sqz_names.proofs.methods.push_methods.Goals.{else-is_bytes-via-then-is_bytes+else-is_method, else-is_bytes-via-else-is_bytes}

-- a dictionary without an array of methods has none
pub returns-in_default-clause-all : goal.returns-in_default-clause-all
returns-in_default-clause-all c selector method is =
    absurd (none-some is.methods (sym (sym c.field_target.ensures.target ∙ c.in_default.is) ∙ is.has_methods))

pub returns-in_default-clause-listed : goal.returns-in_default-clause-listed
returns-in_default-clause-listed c =
    methods_in-none c.args.graph.heap.now c.args.class c.args.dictionary c.args.found.now.items
    (sym c.field_target.ensures.target ∙ c.in_default.is)

pub loop-field-init : goal.loop-field-init
loop-field-init c = record {
  methods = c.requires.methods;
  classes = λ test passes old. old;
  keeps = λ name has. has;
  all = λ selector method is lt. absurd (omega (arith, lt));
  listed = sym (append-nil c.args.found.now.items);
  within = omega arith;
}

pub returns-in_err-push-clause-classes : goal.returns-in_err-push-clause-classes
returns-in_err-push-clause-classes c test passes old =
    All-same (λ name. test name.class ≡ true) _ _ c.in_err-push.ensures.items (c.loop-field.invariant.classes test passes old)

pub returns-in_err-push-clause-keeps : goal.returns-in_err-push-clause-keeps
returns-in_err-push-clause-keeps c name has = rw c.in_err-push.ensures.items (c.loop-field.invariant.keeps name has)

-- a field that points to no selector
pub loop-field-preserved-in_default-field_target : goal.loop-field-preserved-in_default-field_target
loop-field-preserved-in_default-field_target c =
    let memory = c.args.graph.heap.now in
    let so_far = c.loop-field.invariant in
    record {
      methods = so_far.methods;
      classes = so_far.classes;
      keeps = so_far.keeps;
      all = ListsBelow-skip memory c.args.dictionary c.loop-field.field c.loop-field.found.items so_far.all
          (λ selector method is at.
          none-some selector
          (sym (sym c.field_target-in-loop-field.ensures.target ∙ c.in_default-field_target.is)
          ∙ IsMethodIn-selector memory c.args.dictionary selector method c.loop-field.field is at));
      listed = methods_below-skip memory c.args.class c.args.dictionary c.in-Some.methods c.loop-field.field c.loop-field.auto.field
          c.args.found.now.items c.loop-field.found.items so_far.listed
          (method_under-none memory c.args.class c.args.dictionary c.in-Some.methods c.loop-field.field
          (sym c.field_target-in-loop-field.ensures.target ∙ c.in_default-field_target.is));
      within = omega (arith, c.loop-field-test.true, c.fields-field-end.ensures, c.loop-field.auto.field);
    }

-- a selector at whose place is no method
pub loop-field-preserved-in_default-field_target-2 : goal.loop-field-preserved-in_default-field_target-2
loop-field-preserved-in_default-field_target-2 c =
    let memory = c.args.graph.heap.now in
    let so_far = c.loop-field.invariant in
    record {
      methods = so_far.methods;
      classes = so_far.classes;
      keeps = so_far.keeps;
      all = ListsBelow-skip memory c.args.dictionary c.loop-field.field c.loop-field.found.items so_far.all
          (λ selector method is at.
          none-some method
          (sym (sym c.field_target-in-loop-field-2.ensures.target ∙ c.in_default-field_target-2.is)
          ∙ IsMethodIn-method memory c.args.dictionary selector method c.loop-field.field is at c.in-Some.methods
          (sym c.in-Some.ensures.target)));
      listed = methods_below-skip memory c.args.class c.args.dictionary c.in-Some.methods c.loop-field.field c.loop-field.auto.field
          c.args.found.now.items c.loop-field.found.items so_far.listed
          (method_under-unnamed memory c.args.class c.args.dictionary c.in-Some.methods c.loop-field.field
          c.in-Some-field_target.selector c.in-Some-field_target.ensures.target
          (sym c.field_target-in-loop-field-2.ensures.target ∙ c.in_default-field_target-2.is));
      within = omega (arith, c.loop-field-test.true, c.fields-field-end.ensures, c.loop-field.auto.field);
    }

pub loop-field-preserved : goal.loop-field-preserved
loop-field-preserved c =
    let memory = c.args.graph.heap.now in
    let so_far = c.loop-field.invariant in
    let found = c.loop-field.found.items in
    let place : 2 + (c.loop-field.field - 2) ≡ c.loop-field.field = omega (arith, c.loop-field.auto.field) in
    let same_selector : (selector method : ℕ) (is : IsMethodIn c.args.graph.heap.now c.args.dictionary selector method)
    → first_selector_field + is.place ≡ c.loop-field.field → c.in-Some-field_target.selector ≡ selector =
    λ selector method is at.
    same_Some _ _ (c.in-Some-field_target.ensures.target
    ∙ IsMethodIn-selector memory c.args.dictionary selector method c.loop-field.field is at) in
    let same_method : (selector method : ℕ) (is : IsMethodIn c.args.graph.heap.now c.args.dictionary selector method)
    → first_selector_field + is.place ≡ c.loop-field.field → c.in-Some-field_target-2.method ≡ method =
    λ selector method is at.
    same_Some _ _ (c.in-Some-field_target-2.ensures.target
    ∙ IsMethodIn-method memory c.args.dictionary selector method c.loop-field.field is at c.in-Some.methods
    (sym c.in-Some.ensures.target)) in
    let within : (c.loop-field.field + 1) - 2 ≤ length (fields (chunk_words c.args.graph.heap.now c.args.dictionary)) - 2 =
    omega (arith, c.loop-field-test.true, c.fields-field-end.ensures, c.loop-field.auto.field) in
    elim c.if-is_bytes.branch [
      | then-is_bytes+then-is_method+in_ok-push w ↦
          rw (w.found-is, w.in_ok-push.ensures.items)
          (record {
            methods = All-push (IsMethodName c.args.graph.heap.now c.args.graph.weak) _ _ so_far.methods
                (record {
                  method_inside = c.in-Some-field_target-2.ensures.inside;
                  class_inside = c.requires.class_inside;
                  selector_inside = c.in-Some-field_target.ensures.inside;
                  of_class = c.requires.class;
                  is = ∣ record {
                    dictionary = c.args.dictionary;
                    has_dictionary = c.requires.dictionary;
                    is_in = record {
                      methods = c.in-Some.methods;
                      place = c.loop-field.field - 2;
                      has_methods = sym c.in-Some.ensures.target;
                      has_selector = rw place (sym c.in-Some-field_target.ensures.target);
                      has_method = sym c.in-Some-field_target-2.ensures.target;
                      is_text = sym c.is_bytes.ensures ∙ w.if-is_bytes.true;
                      is_compiled = sym w.is_method.ensures ∙ w.if-is_method.true;
                    };
                  } ∣₁;
                });
            classes = λ test passes old.
                All-push (λ name. test name.class ≡ true) _ _ (so_far.classes test passes old) passes;
            keeps = λ name has. Contains-append_left found _ name (so_far.keeps name has);
            all = ListsBelow-push memory c.args.dictionary c.loop-field.field found so_far.all _
                (λ selector method is at. (same_selector selector method is at, same_method selector method is at));
            listed = methods_below-push memory c.args.class c.args.dictionary c.in-Some.methods c.loop-field.field
                c.loop-field.auto.field c.args.found.now.items found so_far.listed _
                (method_under-some memory c.args.class c.args.dictionary c.in-Some.methods c.loop-field.field
                c.in-Some-field_target.selector c.in-Some-field_target.ensures.target c.in-Some-field_target-2.method
                c.in-Some-field_target-2.ensures.target (sym c.is_bytes.ensures ∙ w.if-is_bytes.true)
                (sym w.is_method.ensures ∙ w.if-is_method.true));
            within = within;
          })
      | else-is_bytes w ↦
          rw w.found-is
          (record {
            methods = so_far.methods;
            classes = so_far.classes;
            keeps = so_far.keeps;
            all = ListsBelow-skip memory c.args.dictionary c.loop-field.field found so_far.all
                (λ selector method is at.
                elim w.else-is_bytes.branch [
                  | else-is_bytes-via-then-is_bytes+else-is_method v ↦
                      true≢false (sym is.is_compiled ∙ ap (is_method memory) (sym (same_method selector method is at))
                      ∙ sym v.is_method.ensures ∙ v.if-is_method.false)
                  | else-is_bytes-via-else-is_bytes v ↦
                      true≢false (sym is.is_text ∙ ap (is_bytes memory) (sym (same_selector selector method is at))
                      ∙ sym c.is_bytes.ensures ∙ v.if-is_bytes.false)
                ]);
            listed = methods_below-skip memory c.args.class c.args.dictionary c.in-Some.methods c.loop-field.field
                c.loop-field.auto.field c.args.found.now.items found so_far.listed
                (elim w.else-is_bytes.branch [
                  | else-is_bytes-via-then-is_bytes+else-is_method v ↦
                      method_under-uncompiled memory c.args.class c.args.dictionary c.in-Some.methods c.loop-field.field
                      c.in-Some-field_target.selector c.in-Some-field_target.ensures.target c.in-Some-field_target-2.method
                      c.in-Some-field_target-2.ensures.target (sym v.is_method.ensures ∙ v.if-is_method.false)
                  | else-is_bytes-via-else-is_bytes v ↦
                      method_under-untexted memory c.args.class c.args.dictionary c.in-Some.methods c.loop-field.field
                      c.in-Some-field_target.selector c.in-Some-field_target.ensures.target c.in-Some-field_target-2.method
                      c.in-Some-field_target-2.ensures.target (sym c.is_bytes.ensures ∙ v.if-is_bytes.false)
                ]);
            within = within;
          })
    ]

pub returns-clause-all : goal.returns-clause-all
returns-clause-all c =
    ListsDictionary-all c.args.graph.heap.now c.args.dictionary c.loop-field.field c.loop-field.found.items
    (omega (arith, c.loop-field-test.false, c.fields-field-end.ensures)) c.loop-field.invariant.all

pub returns-clause-listed : goal.returns-clause-listed
returns-clause-listed c =
    let end : c.loop-field.field - 2 ≡ length (fields (chunk_words c.args.graph.heap.now c.args.dictionary)) - 2 =
    omega (arith, c.loop-field-test.false, c.fields-field-end.ensures, c.loop-field.auto.field, c.loop-field.invariant.within) in
    methods_in-below c.args.graph.heap.now c.args.class c.args.dictionary c.in-Some.methods c.args.found.now.items
    c.loop-field.found.items c.loop-field.field (sym c.in-Some.ensures.target)
    end c.loop-field.invariant.listed
