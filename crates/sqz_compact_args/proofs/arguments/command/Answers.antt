use Rattle.std.proofs.Common.{◌∙◌, ap}
use Rattle.std.proofs.lemmas.Result.{IfOk-weaker}
use Rattle.clap.specs.Words.{AddsArg}
use Rattle.clap.specs.Simple.{app_of_fields}
use Rattle.clap.specs.declared.builder.command.Command.{Command}
use Rattle.sqz_compact_args.specs.CommandLine.{with_version}
use Rattle.sqz_compact_args.proofs.CommandLineLemmas.{IsMade, all_given, shape_is}
use Rattle.sqz_compact_args.proofs.arguments.command.Goals as goal
use Rattle.sqz_compact_args.proofs.arguments.command.Goals.{After-arg-6}

-- a command to which the last argument was added is made of the first one
is_made : (c : After-arg-6) (made : Command) → AddsArg c.in_ok-arg-5.field-0 c.flag-2.result made
    → IsMade c.about.result made
is_made c made added =
    record {
      one = c.in_ok-arg.field-0;
      two = c.in_ok-arg-2.field-0;
      three = c.in_ok-arg-3.field-0;
      four = c.in_ok-arg-4.field-0;
      five = c.in_ok-arg-5.field-0;
      input = c.required.result;
      output = c.required-2.result;
      workers = c.number.result;
      region_words = c.number-2.result;
      census = c.flag.result;
      clear_weak = c.flag-2.result;
      first = c.in_ok-arg.ensures;
      second = c.in_ok-arg-2.ensures;
      third = c.in_ok-arg-3.ensures;
      fourth = c.in_ok-arg-4.ensures;
      fifth = c.in_ok-arg-5.ensures;
      sixth = added;
      for_input = c.required.ensures;
      for_output = c.required-2.ensures;
      for_workers = c.number.ensures;
      for_regions = c.number-2.ensures;
      for_census = c.flag.ensures;
      for_weak = c.flag-2.ensures;
    }

pub returns-clause-shape : goal.returns-clause-shape
returns-clause-shape c = IfOk-weaker c.arg-6.result _ _ (λ made added.
    shape_is c.about.result made (is_made (goal.at.returns-clause-shape c).After-arg-6 made added) (ap app_of_fields c.about.ensures ∙ ap app_of_fields c.version.ensures ∙ ap with_version c.new.ensures.app))
    c.arg-6.ensures

pub returns-clause-given : goal.returns-clause-given
returns-clause-given c = IfOk-weaker c.arg-6.result _ _ (λ made added m parsed.
    all_given c.about.result made (is_made (goal.at.returns-clause-given c).After-arg-6 made added) (ap (λ f. f.args.items) c.about.ensures ∙ ap (λ f. f.args.items) c.version.ensures ∙ c.new.ensures.empty.0)
    (ap (λ f. f.groups.items) c.about.ensures ∙ ap (λ f. f.groups.items) c.version.ensures ∙ c.new.ensures.empty.1)
    (ap (λ f. f.has_globals) c.about.ensures ∙ ap (λ f. f.has_globals) c.version.ensures ∙ c.new.ensures.local)
    (ap (λ f. f.subcommand_negates_reqs) c.about.ensures ∙ ap (λ f. f.subcommand_negates_reqs) c.version.ensures ∙ c.new.ensures.negates) m parsed)
    c.arg-6.ensures
