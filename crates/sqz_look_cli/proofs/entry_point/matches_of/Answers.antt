use Rattle.std.proofs.Common.{◌∙◌, ap}
use Rattle.std.specs.Prelude.{map, string_bytes}
use Rattle.std.proofs.lemmas.Result.{IfOk-weaker, MatchResult-weaker}
use Rattle.clap.specs.Words.{App, takes}
use Rattle.clap.proofs.WalkLemmas.{IfOk-both}
use Rattle.sqz_look_args.proofs.LineLemmas.{HasCommand-line, subcommand_rows_of-line}
use Rattle.sqz_look_cli.proofs.entry_point.matches_of.Goals as goal

pub returns-clause-subcommand : goal.returns-clause-subcommand
returns-clause-subcommand c =
    let words = map string_bytes c.args.words.now in
    let made = c.try_get_matches_from in
    IfOk-weaker made.result _ _
    (λ matches (parsed, has). subcommand_rows_of-line c.in_ok-command.field-0 words matches c.in_ok-command.ensures parsed has)
    (IfOk-both made.result _ _ made.ensures.parsed made.ensures.matches)

pub returns-clause-command : goal.returns-clause-command
returns-clause-command c =
    let words = map string_bytes c.args.words.now in
    let made = c.try_get_matches_from in
    IfOk-weaker made.result _ _
    (λ matches (parsed, has). HasCommand-line c.in_ok-command.field-0 words matches c.in_ok-command.ensures parsed has)
    (IfOk-both made.result _ _ made.ensures.parsed made.ensures.matches)

pub returns-clause-accepted : goal.returns-clause-accepted
returns-clause-accepted c =
    let words = map string_bytes c.args.words.now in
    MatchResult-weaker c.try_get_matches_from.result c.try_get_matches_from.ensures.passes (λ matches any. any)
    (λ error passes accepted. passes (ap (λ (a : App). takes a words) c.in_ok-command.ensures ∙ accepted))
