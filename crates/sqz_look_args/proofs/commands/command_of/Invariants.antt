use Rattle.sqz_look_args.specs.CommandLine.{listed_of}
use Rattle.sqz_look_args.proofs.CommandLemmas.{HasFirst}
use Rattle.sqz_look_args.proofs.commands.command_of.Given as goal

abbrev pub invariant-loop-argument : goal.invariant-loop-argument
invariant-loop-argument l = HasFirst (listed_of l.subcommand) l.argument-index l.command
