use Rattle.std.proofs.Common.{◌≡◌}
use Rattle.clap.specs.Words.{app_of}
use Rattle.sqz_look_args.proofs.CommandLemmas.{line_of_first}
use Rattle.sqz_look_args.proofs.commands.command.Given as goal

abbrev pub invariant-loop-subcommand : goal.invariant-loop-subcommand
invariant-loop-subcommand l = app_of l.command ≡ line_of_first l.subcommand-items l.subcommand-index
