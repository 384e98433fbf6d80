use Rattle.std.proofs.Common.{◌≡◌, ◌∙◌, ℕ, List, Some, codes, ap, subst, sym}
use Rattle.std.specs.Prelude.{option_map}
use Rattle.std.proofs.lemmas.Option.{same_Some}
use Rattle.std.proofs.lemmas.Result.{err_from_is_err_and}
use Rattle.clap.specs.Words.{Row, Text, found_of, rows_of, subcommand_rows_of}
use Rattle.sqz_look_args.specs.Requests.{IsCheckOf, IsDiffOf, has_flag}
use Rattle.sqz_look_args.proofs.RequestLemmas.{name_is_check, name_is_diff, is_json-check}
use Rattle.sqz_look_args.proofs.requests.Request.of.Goals as goal
use Rattle.sqz_look_args.proofs.requests.Request.of.Goals.{After-flag_of-5}

pub returns-in_err-question-clause-check : goal.returns-in_err-question-clause-check
returns-in_err-question-clause-check c rows asked =
    let p = err_from_is_err_and c.from_residual.result c.from_residual.ensures.1 in
    let is = name_is_check c.args.matches.now rows c.unwrap.result.0.now c.unwrap-name.result
    (sym (ap (option_map (λ p. p.0.now)) c.unwrap.ensures) ∙ c.subcommand.ensures.name)
    (sym c.unwrap-name.ensures ∙ c.of.ensures) asked in
    rw (p.1, p.2) (c.in_err-question.ensures.check is)

-- the rows of the matches of the subcommand
rows_are : (c : After-flag_of-5) (word : Text) (rows : List Row) → subcommand_rows_of c.args.matches.now ≡ Some (word, rows)
    → rows_of (found_of c.unwrap.result.1.now) ≡ rows
rows_are c word rows asked =
    let entered = sym (ap (option_map (λ p. rows_of (found_of p.1.now))) c.unwrap.ensures) ∙ c.subcommand.ensures.rows in
    same_Some _ _ (entered ∙ ap (option_map (λ p. p.1)) asked)

pub returns-clause-check : goal.returns-clause-check
returns-clause-check c rows asked =
    let is = name_is_check c.args.matches.now rows c.unwrap.result.0.now c.unwrap-name.result
    (sym (ap (option_map (λ p. p.0.now)) c.unwrap.ensures) ∙ c.subcommand.ensures.name)
    (sym c.unwrap-name.ensures ∙ c.of.ensures) asked in
    let same = rows_are c _ rows asked in
    let flag = λ (id : List ℕ). ap (has_flag id) same in
    let question =
    subst (λ (found : List Row). IsCheckOf found c.in_ok-question.question) same (c.in_ok-question.ensures.check is)
    in
    record {
      question = question;
      clear_weak = c.flag_of-2.ensures ∙ flag (codes "clear-weak");
      past_damage =
          c.flag_of-3.ensures ∙ flag (codes "past-damage");
      json = c.is_json.ensures ∙ (is_json-check rows _ _ question ∙ (c.flag_of.ensures ∙ flag (codes "json")));
      all = c.flag_of-4.ensures ∙ flag (codes "all");
      human = c.flag_of-5.ensures ∙ flag (codes "human");
    }

pub returns-clause-diff : goal.returns-clause-diff
returns-clause-diff c rows asked =
    let is = name_is_diff c.args.matches.now rows c.unwrap.result.0.now c.unwrap-name.result
    (sym (ap (option_map (λ p. p.0.now)) c.unwrap.ensures) ∙ c.subcommand.ensures.name)
    (sym c.unwrap-name.ensures ∙ c.of.ensures) asked in
    let same = rows_are c _ rows asked in
    let flag = λ (id : List ℕ). ap (has_flag id) same in
    let question = subst (λ (found : List Row). IsDiffOf found c.in_ok-question.question) same (c.in_ok-question.ensures.diff is) in
    record {
      question = question;
      clear_weak = c.flag_of-2.ensures ∙ flag (codes "clear-weak");
      past_damage =
          c.flag_of-3.ensures ∙ flag (codes "past-damage");
    }
