use Rattle.std.proofs.Common.{ℕ, List, ◌∙◌, ap, get_or, length, subst, ◌≡◌, None, inr, refl, arith}
use Rattle.std.proofs.lemmas.List.{get_or_default}
use Rattle.sqz_names.specs.declared.variable_name.VariableName.{VariableName}
use Rattle.sqz_names.specs.Categories.{IsNoOrganization}
use Rattle.sqz_names.proofs.MethodLemmas.{below-more}
use Rattle.sqz_names.proofs.OrganizationLemmas.{HasNoOrganization-listed}
use Rattle.sqz_names.proofs.categories.system_organizer.Goals as goal

pub returns-clause-organizer : goal.returns-clause-organizer
returns-clause-organizer c =
    let names = c.args.names.now in
    inr (
      refl,
      HasNoOrganization-listed names.graph.heap.now names.graph.weak names.variables.items names.are_variables names.all_variables
          (λ k d lt. c.loop-variable.invariant k d (omega (arith, lt, ap length c.deref-variable-items.ensures.value, c.loop-variable-test.false))),
    )

pub loop-variable-preserved : goal.loop-variable-preserved
loop-variable-preserved c k d lt =
    let variables : List VariableName = c.args.names.now.variables.items in
    let index : ℕ = c.loop-variable.variable-index in
    let IsNot : VariableName → Type 0 = IsNoOrganization c.args.names.now.graph.heap.now c.args.names.now.graph.weak in
    let listed : c.deref-variable-items.result.now ≡ variables = c.deref-variable-items.ensures.value in
    let none : VariableName = record { association = 0; class = None; key = 0 } in
    let here = c.in_ok-is_organization.ensures.complete c.if-branch.false in
    below-more (λ (i : ℕ). (d : VariableName) → IsNot (get_or variables i d)) index (λ i before d. c.loop-variable.invariant i d before)
    (λ d. subst IsNot (ap (λ (l : List VariableName). get_or l index none) listed ∙ get_or_default variables index none d (omega (arith, ap length listed, c.loop-variable-test.true))) here)
    k lt d
