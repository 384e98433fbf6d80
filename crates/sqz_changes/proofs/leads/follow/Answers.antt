use Rattle.std.proofs.Common.{◌≡◌, ◌∙◌, ◌++◌, ℕ, List, ap, subst, arith}
use Rattle.sqz_changes.specs.declared.leads.Step.{Step}
use Rattle.sqz_changes.specs.Compared.{common_fields, compared}
use Rattle.sqz_changes.specs.Differences.{slots_to}
use Rattle.sqz_changes.specs.Leads.{AreFirst}
use Rattle.sqz_changes.specs.Owners.{through}
use Rattle.sqz_changes.proofs.LeadLemmas.{through-more}
use Rattle.sqz_changes.proofs.leads.follow.Goals as goal

pub loop-field-preserved : goal.loop-field-preserved
loop-field-preserved c =
    record {
      first = λ steps are.
          subst (λ (s : List Step). AreFirst (compared c.args.comparison.now) s c.note-in-loop-field.new.found.items)
          (through-more steps c.args.index c.loop-field.field)
          (c.note-in-loop-field.ensures.first (steps ++ through c.args.index (slots_to c.loop-field.field)) (c.loop-field.invariant.first steps are));
      sized = c.note-in-loop-field.ensures.sized ∙ c.loop-field.invariant.sized;
    }

pub returns-clause-first : goal.returns-clause-first
returns-clause-first c steps are =
    let last : c.loop-field.field ≡ common_fields (compared c.args.comparison.now) c.pair_at.result =
    omega (arith, c.loop-field-test.false, c.loop-field.auto.field-end, c.common_fields-count.ensures) in
    subst (λ (s : List Step). AreFirst (compared c.args.comparison.now) s c.loop-field.found.items)
    (ap (λ (n : ℕ). steps ++ through c.args.index (slots_to n)) (last ∙ ap (common_fields (compared c.args.comparison.now)) c.pair_at.ensures.pair))
    (c.loop-field.invariant.first steps are)
