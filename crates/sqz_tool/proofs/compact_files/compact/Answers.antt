use Rattle.std.proofs.Common.{true, ap, inr}
use Rattle.std.proofs.lemmas.Result.{IfErr-weaker, IfOk-weaker, MatchResult-from_both}
use Rattle.sqz_cli.specs.Exits.{exit_of}
use Rattle.sqz_tool.specs.Headline.{Compacts, Refuses}
use Rattle.sqz_tool.proofs.RunLemmas.{Refuses-exit, runs_files}
use Rattle.sqz_tool.proofs.compact_files.compact.Goals as goal

pub returns-clause-workers : goal.returns-clause-workers
returns-clause-workers g c =
    IfErr-weaker c.run.result _ _ (λ fault refused. (
      (λ e. absurd (Refuses-exit _ _ _ _ _ _ _ fault refused (ap exit_of e))),
      (λ none. absurd (none c.in_ok-opened.ensures.taken.0)),
    )) c.run.ensures.refuses

pub returns-clause-cut : goal.returns-clause-cut
returns-clause-cut g c =
    IfErr-weaker c.run.result _ _ (λ fault refused. (
      (λ e. absurd (Refuses-exit _ _ _ _ _ _ _ fault refused (ap exit_of e))),
      (λ none. absurd (none.1 c.in_ok-opened.ensures.taken.1)),
    )) c.run.ensures.refuses

pub returns-clause-ends : goal.returns-clause-ends
returns-clause-ends g c =
    let opened = c.in_ok-opened.ensures in
    MatchResult-from_both c.run.result _ _
    (IfOk-weaker c.run.result _ _ (λ summary compacts.
    runs_files _ _ _ _ (λ weak census from to before after. Compacts true weak census from to before after summary) _ _ _ _ opened.not_read.0
    _ _ c.in_ok-opened.opened.sink c.run.new.sink opened.weak opened.census opened.not_read.1 opened.path opened.not_made
    compacts) c.run.ensures.compacts)
    (IfErr-weaker c.run.result _ _ (λ fault refused workers cut. inr (
    runs_files _ _ _ _ (λ weak census from to before after. Refuses true weak census from to before after fault) _ _ _ _ opened.not_read.0
    _ _ c.in_ok-opened.opened.sink c.run.new.sink opened.weak opened.census opened.not_read.1 opened.path opened.not_made
    refused)) c.run.ensures.refuses)
