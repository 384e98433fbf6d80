use Rattle.std.proofs.Common.{ℕ, List, length, get_or, ap, sym, ◌∙◌, arith, rules}
use Rattle.std.proofs.Math.Logic.{∥∥₁_elim}
use Rattle.std.proofs.lemmas.Bool.{eq-eqb, ltb-false}
use Rattle.std.specs.Bool.{then_some}
use Rattle.std.specs.Option.{is_some}
use mathlib.Core.Bool.{Bool-set}
use Rattle.sqz_names.specs.declared.method_name.MethodName.{MethodName}
use Rattle.sqz_names.proofs.SearchLemmas.{HasAt-found}
use Rattle.sqz_names.proofs.names.Names.method_name.Goals as goal

pub returns-in_err-name-clause-complete : goal.returns-in_err-name-clause-complete
returns-in_err-name-clause-complete c class selector inside is has =
    let place = c.partition_point-place.result in
    ∥∥₁_elim (c.args.self.now.all_methods class inside is selector c.args.method has) (Bool-set _ _) (λ listed.
    let found = HasAt-found (λ (name : MethodName). name.method) c.args.self.now.methods.items _ place c.args.method c.deref.ensures.value
    c.args.self.now.methods_in_order c.partition_point-place.ensures.partitioned (λ a r f h. search rules) _ listed.has (λ k. c.args.method) in
    let beyond = ltb-false place (length c.deref-2.result.now) (sym c.in_err-name.ensures.lookup.0) in
    absurd (omega (arith, found.inside, beyond, ap length c.deref-2.ensures.value)))

pub returns-clause-complete : goal.returns-clause-complete
returns-clause-complete c class selector inside is has =
    let place = c.partition_point-place.result in
    let number : MethodName → ℕ = λ name. name.method in
    ∥∥₁_elim (c.args.self.now.all_methods class inside is selector c.args.method has) (Bool-set _ _) (λ listed.
    let found = HasAt-found (λ (name : MethodName). name.method) c.args.self.now.methods.items _ place c.args.method c.deref.ensures.value
    c.args.self.now.methods_in_order c.partition_point-place.ensures.partitioned (λ a r f h. search rules) _ listed.has (λ k. c.args.method) in
    let name = c.in_ok-name.field-0.now in
    let read = c.in_ok-name.ensures.lookup.1 ∙ ap (λ (l : List MethodName). get_or l place name) c.deref-2.ensures.value in
    ap is_some c.then_some.ensures
    ∙ ap (λ it. is_some (then_some it name)) (eq-eqb name.method c.args.method (ap number read ∙ found.is name)))
