use Rattle.std.proofs.Common.{◌≡◌, ◌∙◌, ◌+◌, ◌-◌, ◌++◌, ◌∷◌, [], ℕ, zero, suc, List, Option, Some, None, ap, refl, sym, reverse, append_assoc, arith}
use Rattle.std.proofs.lemmas.List.{reverse-append}
use Rattle.std.specs.Prelude.{slice_index_or}
use Rattle.sqz_changes.specs.declared.leads.Step.{Step}
use Rattle.sqz_changes.specs.Owners.{path_by, path_within}
use Rattle.sqz_changes.proofs.change.Changes.path_to.Goals as goal

path-none : (leads : List (Option Step)) (most index : ℕ) → slice_index_or leads index None ≡ None → path_within leads most index ≡ []
path-none leads zero index e = refl
path-none leads (suc most) index e = ap (path_by (path_within leads most)) e

path-some : (leads : List (Option Step)) (most less index : ℕ) (step : Step) → most ≡ suc less → slice_index_or leads index None ≡ Some step
    → path_within leads most index ≡ path_within leads less step.pair ++ step ∷ []
path-some leads most less index step e f =
    ap (λ (n : ℕ). path_within leads n index) e ∙ ap (path_by (path_within leads less)) f

pub returns-in-None : goal.returns-in-None
returns-in-None c =
    let leads : List (Option Step) = c.args.self.now.leads.items in
    c.reverse.ensures.items
    ∙ sym (c.loop-count.invariant
    ∙ ap (λ (steps : List Step). steps ++ reverse c.loop-count.steps.items)
    (path-none leads (c.args.pair - c.loop-count._count) c.loop-count.at (sym c.lead.ensures ∙ c.in-None.is)))

pub loop-count-preserved : goal.loop-count-preserved
loop-count-preserved c =
    let leads : List (Option Step) = c.args.self.now.leads.items in
    let step : Step = c.in-Some.step in
    let steps : List Step = c.loop-count.steps.items in
    let less : ℕ = c.args.pair - (c.loop-count._count + 1) in
    let one : c.args.pair - c.loop-count._count ≡ suc less = omega (arith, c.loop-count-test.true) in
    let before : List Step = path_within leads less step.pair in
    c.loop-count.invariant
    ∙ ap (λ (path : List Step). path ++ reverse steps)
    (path-some leads (c.args.pair - c.loop-count._count) less c.loop-count.at step one (sym c.lead.ensures ∙ c.in-Some.is))
    ∙ append_assoc before (step ∷ []) (reverse steps)
    ∙ ap (λ (rest : List Step). before ++ rest)
    (sym (reverse-append steps (step ∷ [])) ∙ ap (λ (xs : List Step). reverse xs) (sym c.in_ok-push-in-Some.ensures.items))
