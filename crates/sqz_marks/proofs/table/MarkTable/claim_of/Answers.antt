use Rattle.std.proofs.Common.{◌≡◌, ℕ, sym, subst, ◌∙◌, rules}
use Rattle.sqz_marks.proofs.CallLemmas.{claim_owes}
use Rattle.sqz_marks.specs.declared.claim.Claim.TheVariants.{Won, Seen}
use Rattle.sqz_marks.specs.Table.{HeldPass, IsNewTo}
use Rattle.sqz_marks.proofs.table.MarkTable.claim_of.Goals as goal
use Rattle.sqz_marks.proofs.table.MarkTable.claim_of.Goals.{in-0, in_default-fetch_max}

pub fetch_max-requires : goal.fetch_max-requires
fetch_max-requires c =
    let marks = c.self.inside in let shared = marks.table.shared in let pass = c.pass.inside in
    claim_owes c.args.self.now c.args.pass.now c.requires.of shared.table_id shared.key.0.value marks.regions.now shared.key.1
    marks.weak shared.key.2 marks.workers pass.workers c.self.view_is c.self.invariant.1 c.self.invariant.2 c.self.invariant.4
    pass.seat.table_id pass.seat.id pass.seat.me c.pass.view_is c.args.edges.now c.args.slot c.in-Some.object c.requires.seen
    (sym c.target.ensures.target ∙ c.in-Some.is)

pub returns-clause-claim : goal.returns-clause-claim
returns-clause-claim c = search rules

pub returns-clause-new : goal.returns-clause-new
returns-clause-new c object won =
    elim c.match-fetch_max.branch [
      | in-0 w ↦
          let wins : Won c.in-Some.object ≡ Won object = sym w.result-is ∙ won in
          let same : c.in-Some.object ≡ object = cc in
          let new = c.fetch_max.ensures.2.new w.in-0.is in
          subst (λ (o : ℕ). IsNewTo c.args.pass.now.view o) same
          (subst (λ (p : HeldPass). IsNewTo p.view c.in-Some.object) c.pass.view_is new)
      | in_default-fetch_max w ↦ (let no : Seen c.in-Some.object ≡ Won object = sym w.result-is ∙ won in cc)
    ]
