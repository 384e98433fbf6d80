use Rattle.std.proofs.Common.{◌≡◌, sym, ◌∙◌, rules, subst}
use Rattle.std.specs.Prelude.{IfSome}
use Rattle.std.proofs.lemmas.Option.{same_Some}
use Rattle.sqz_names.specs.LabelOrder.{IsFirst, IsNotKnown, IsNotSpecial}
use Rattle.sqz_names.proofs.names.Names.placed_label.Goals as goal

pub returns-in-Some-2-clause-first : goal.returns-in-Some-2-clause-first
returns-in-Some-2-clause-first c =
    let memory = c.args.self.now.graph.heap.now in
    let weak = c.args.self.now.graph.weak in
    let differ : c.args.object ≡ c.special.result → ⊥ = search rules in
    let not_special : IsNotSpecial memory c.args.object = λ is. differ (same_Some _ _ (sym is ∙ c.special.ensures.special)) in
    let not_known : IsNotKnown memory weak c.args.object = c.in_ok-known.ensures.complete c.in_default.is in
    subst (λ label. IfSome label (IsFirst memory weak c.args.object)) c.in-Some-2.is (c.in_ok-label.ensures.first not_special not_known)

pub returns-clause-first : goal.returns-clause-first
returns-clause-first c =
    let memory = c.args.self.now.graph.heap.now in
    let differ : c.args.object ≡ c.special.result → ⊥ = search rules in
    let not_special : IsNotSpecial memory c.args.object = λ is. differ (same_Some _ _ (sym is ∙ c.special.ensures.special)) in
    c.named_label.ensures.first not_special (c.in_ok-known.ensures.complete c.in_default.is)
    (c.in_ok-label.ensures.complete c.in_default-2.is)

pub returns-clause-none : goal.returns-clause-none
returns-clause-none c none =
    let memory = c.args.self.now.graph.heap.now in
    let differ : c.args.object ≡ c.special.result → ⊥ = search rules in
    record {
      not_special = λ is. differ (same_Some _ _ (sym is ∙ c.special.ensures.special));
      not_known = c.in_ok-known.ensures.complete c.in_default.is;
      no_class = c.in_ok-label.ensures.complete c.in_default-2.is;
      no_method = c.named_label.ensures.no_method none;
      no_variable = c.named_label.ensures.no_variable none;
    }
