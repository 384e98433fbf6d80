use Rattle.std.proofs.Common.{List, [], ◌∷◌, codes, refl}
use Rattle.std.specs.Prelude.{option_map, unwrap_or}
use Rattle.clap.specs.Words.{Row, Text, subcommand_of}
use Rattle.clap.proofs.OnLiterals.{clap_on_literals}
use Rattle.sqz_look_args.specs.CommandLine.{look_line}
use Rattle.sqz_look_args.proofs.laws.worked_requests.Goals as goal

-- the values of the subcommand that the words name
abbrev rows_at : List Text → List Row
rows_at words = unwrap_or (option_map (λ p. p.1) (subcommand_of look_line words)) []

pub returns-clause-cleared : goal.returns-clause-cleared
unfolding clap_on_literals
returns-clause-cleared c = (
  rows_at (codes "sqzlook" ∷ codes "check" ∷ codes "a" ∷ codes "b" ∷ codes "--clear-weak" ∷ []),
  record { accepted = refl; subcommand = refl },
  refl,
  refl,
)

pub returns-clause-kept : goal.returns-clause-kept
unfolding clap_on_literals
returns-clause-kept c =
    (rows_at (codes "sqzlook" ∷ codes "check" ∷ codes "a" ∷ []), record { accepted = refl; subcommand = refl }, refl, refl)
