use Rattle.std.proofs.Common.{◌≡◌, ◌∙◌, ap, rules, sym}
use Rattle.std.specs.Prelude.{Err, Ok, codes, option_map}
use Rattle.std.proofs.lemmas.Option.{same_Some}
use Rattle.clap.specs.declared.parser.matches.ArgMatches.{ArgMatches}
use Rattle.sqz_compact_args.proofs.CommandLineLemmas.{first_is, flag_is, number_read, one_is, refusals_are}
use Rattle.sqz_compact_args.proofs.arguments.read_arguments.Goals as goal

pub unwrap-requires-3 : goal.unwrap-requires-3
unwrap-requires-3 c =
    let m = c.in_ok-matches.matches in
    let given = c.in_ok-command.ensures.given m c.in_ok-matches.ensures.parsed in
    let got = number_read m (codes "workers") c.get_one.result given.workers c.get_one.ensures.value in
    rw got.found (search rules)

pub unwrap-requires-4 : goal.unwrap-requires-4
unwrap-requires-4 c =
    let m = c.in_ok-matches.matches in
    let given = c.in_ok-command.ensures.given m c.in_ok-matches.ensures.parsed in
    let got = number_read m (codes "region-words") c.get_one-2.result given.region_words c.get_one-2.ensures.value in
    rw got.found (search rules)

pub returns-clause-input : goal.returns-clause-input
returns-clause-input c =
    first_is c.in_ok-command.field-0 _ c.in_ok-matches.matches (codes "IN") c.in_ok-command.ensures.shape c.in_ok-matches.ensures.matches
    ∙ (sym c.get_str.ensures ∙ ap (option_map (λ s. s.now)) c.unwrap.ensures)

pub returns-clause-output : goal.returns-clause-output
returns-clause-output c =
    first_is c.in_ok-command.field-0 _ c.in_ok-matches.matches (codes "OUT") c.in_ok-command.ensures.shape c.in_ok-matches.ensures.matches
    ∙ (sym c.get_str-2.ensures ∙ ap (option_map (λ s. s.now)) c.unwrap-2.ensures)

pub returns-clause-workers : goal.returns-clause-workers
returns-clause-workers c =
    let m = c.in_ok-matches.matches in
    let given = c.in_ok-command.ensures.given m c.in_ok-matches.ensures.parsed in
    let got = number_read m (codes "workers") c.get_one.result given.workers c.get_one.ensures.value in
    let same : got.number ≡ c.unwrap-3.result = same_Some _ _ (sym got.found ∙ c.unwrap-3.ensures) in
    let is = one_is c.in_ok-command.field-0 _ m (codes "workers") c.in_ok-command.ensures.shape c.in_ok-matches.ensures.matches in
    (got.text, is ∙ got.given, got.numeral, got.value ∙ same)

pub returns-clause-region_words : goal.returns-clause-region_words
returns-clause-region_words c =
    let m = c.in_ok-matches.matches in
    let given = c.in_ok-command.ensures.given m c.in_ok-matches.ensures.parsed in
    let got = number_read m (codes "region-words") c.get_one-2.result given.region_words c.get_one-2.ensures.value in
    let same : got.number ≡ c.unwrap-4.result = same_Some _ _ (sym got.found ∙ c.unwrap-4.ensures) in
    let is = one_is c.in_ok-command.field-0 _ m (codes "region-words") c.in_ok-command.ensures.shape c.in_ok-matches.ensures.matches in
    (got.text, is ∙ got.given, got.numeral, got.value ∙ same)

pub returns-clause-census : goal.returns-clause-census
returns-clause-census c =
    let m = c.in_ok-matches.matches in
    let given = c.in_ok-command.ensures.given m c.in_ok-matches.ensures.parsed in
    let get = c.get_flag.ensures in
    flag_is c.in_ok-command.field-0 _ m (codes "census") c.get_flag.result
    c.in_ok-command.ensures.shape c.in_ok-matches.ensures.matches given.census get.none get.value get.other

pub returns-clause-clear_weak : goal.returns-clause-clear_weak
returns-clause-clear_weak c =
    let m = c.in_ok-matches.matches in
    let given = c.in_ok-command.ensures.given m c.in_ok-matches.ensures.parsed in
    let get = c.get_flag-2.ensures in
    flag_is c.in_ok-command.field-0 _ m (codes "clear-weak") c.get_flag-2.result
    c.in_ok-command.ensures.shape c.in_ok-matches.ensures.matches given.clear_weak get.none get.value get.other

pub returns-clause-refused : goal.returns-clause-refused
returns-clause-refused c =
    refusals_are c.in_ok-command.field-0 _ (Ok c.in_ok-matches.matches) c.in_ok-command.ensures.shape c.in_ok-matches.ensures.kinds

pub returns-in_err-matches-clause-refused : goal.returns-in_err-matches-clause-refused
returns-in_err-matches-clause-refused c =
    let kinds =
    refusals_are {T = ArgMatches} c.in_ok-command.field-0 _ (Err c.in_err-matches.field-0.0)
    c.in_ok-command.ensures.shape c.in_err-matches.ensures.kinds
    in
    search rules
