use Rattle.std.proofs.Common.{◌≡◌, ◌∙◌, sym, rules, subst}
use Rattle.std.specs.Prelude.{IfSome}
use Rattle.std.specs.Str.{bytes_eq}
use Rattle.std.specs.String.{string_bytes}
use Rattle.std.proofs.lemmas.Slice.Eq.{bytes_eq-Decides}
use Rattle.sqz_names.specs.Labels.{IsLabel}
use Rattle.sqz_names.specs.LabelOrder.{IsFirst}
use Rattle.sqz_names.specs.Texts.{label_text}
use Rattle.sqz_names.proofs.words.labelled.is_labelled.Goals as goal

pub returns-in_ok-label_text-in-Some : goal.returns-in_ok-label_text-in-Some
returns-in_ok-label_text-in-Some c =
    let memory = c.args.names.now.graph.heap.now in
    let weak = c.args.names.now.graph.weak in
    let words = c.args.words.now in
    let label = c.in-Some.label in
    let is_label : IsLabel c.args.names.now.graph.heap.now c.args.names.now.graph.weak c.args.object c.in-Some.label =
    subst (λ found. IfSome found (IsLabel memory weak c.args.object)) c.in-Some.is c.in_ok-label.ensures.label in
    let is_first : IsFirst c.args.names.now.graph.heap.now c.args.names.now.graph.weak c.args.object c.in-Some.label =
    subst (λ found. IfSome found (IsFirst memory weak c.args.object)) c.in-Some.is c.in_ok-label.ensures.first in
    let text : string_bytes c.in_ok-label_text-in-Some.field-0
    ≡ label_text c.args.names.now.graph.heap.now c.args.names.now.graph.weak c.args.object c.in-Some.label = search rules in
    let test : c.eq.result ≡ bytes_eq (string_bytes c.in_ok-label_text-in-Some.field-0) c.args.words.now = search rules in
    record {
      sound = λ is. ∣ record {
        label = label;
        is_label = is_label;
        is_first = is_first;
        is = sym ((bytes_eq-Decides _ words).0 (sym test ∙ is)) ∙ text;
      } ∣₁;
      complete = λ only. test ∙ (bytes_eq-Decides _ words).1 (text ∙ sym (only label is_label is_first).1);
    }

pub returns-in-None-clause-complete : goal.returns-in-None-clause-complete
returns-in-None-clause-complete c only = absurd (c.in_ok-label.ensures.none c.in-None.is only)
