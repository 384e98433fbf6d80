use Rattle.std.proofs.Common.{◌∙◌, ap, ℕ, Option, Some}
use Rattle.std.specs.Prelude.{nat_eq}
use Rattle.std.specs.Option.{option_eq}
use Rattle.sqz_changes.proofs.PairLemmas.{partners}
use Rattle.sqz_changes.proofs.comparison.Comparison.are_partners.Goals as goal

pub returns : goal.returns
returns c =
    let self = c.args.self.now in
    c.eq.ensures
    ∙ ap (λ (o : Option ℕ). option_eq nat_eq o (Some c.args.new)) c.new_of.ensures
    ∙ partners self.old.now self.new.now self.matching.now self.walk c.args.old c.args.new
