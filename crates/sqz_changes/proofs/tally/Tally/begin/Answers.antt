use Rattle.std.proofs.Common.{◌≡◌, ◌∙◌, ℕ, List, Some, ap, refl, subst, sym, length, set, arith}
use Rattle.sqz_changes.specs.declared.change.Change.{Change}
use Rattle.sqz_changes.specs.Tally.{IsTally, counted}
use Rattle.sqz_changes.proofs.TallyLemmas.{IsTally-push, counted-with, no_change_of, with_difference-new}
use Rattle.sqz_changes.proofs.tally.Tally.begin.Goals as goal

pub returns-clause-changes : goal.returns-clause-changes
returns-clause-changes c =
    let self = c.args.self.now in
    c.in_ok-push.ensures.items
    ∙ sym (with_difference-new self.changes.items c.args.owner c.args.difference
    (no_change_of (length self.rows.items) self.changes.items self.rows.items c.requires.tally c.args.owner c.requires.none))

pub returns-clause-tally : goal.returns-clause-tally
returns-clause-tally c =
    let self = c.args.self.now in
    let owners : ℕ = length self.rows.items in
    let at : c.len-row.result ≡ length self.changes.items = omega (arith, c.len-row.ensures, self.changes.ok.0) in
    let pushed = IsTally-push owners self.changes.items self.rows.items c.requires.tally c.args.owner
    (record { owner = c.args.owner; first = c.args.difference; count = 1 }) c.requires.owner c.requires.none refl in
    subst (λ (n : ℕ). IsTally owners c.push.new.self.items (set self.rows.items c.args.owner (Some n))) (sym at)
    (subst (λ (changes : List Change). IsTally owners changes (set self.rows.items c.args.owner (Some (length self.changes.items)))) (sym c.in_ok-push.ensures.items) pushed)

pub returns-clause-counted : goal.returns-clause-counted
returns-clause-counted c =
    let self = c.args.self.now in
    ap counted (c.in_ok-push.ensures.items
    ∙ sym (with_difference-new self.changes.items c.args.owner c.args.difference
    (no_change_of (length self.rows.items) self.changes.items self.rows.items c.requires.tally c.args.owner c.requires.none)))
    ∙ counted-with c.args.owner c.args.difference self.changes.items
