use Rattle.std.proofs.Common.{◌∙◌, arith}
use Rattle.sqz_look_args.proofs.CommandLemmas.{line_of_first-more, line_of_first-whole}
use Rattle.sqz_look_args.proofs.commands.command.Goals as goal

pub loop-subcommand-preserved : goal.loop-subcommand-preserved
loop-subcommand-preserved c =
    line_of_first-more _ _ _ c.subcommands-subcommand-items.result c.loop-subcommand.subcommand-index _ (omega arith)
    c.in_ok-command.ensures c.loop-subcommand.invariant c.in_ok-command_of.ensures

pub returns : goal.returns
returns c =
    c.loop-subcommand.invariant
    ∙ line_of_first-whole c.subcommands-subcommand-items.result c.loop-subcommand.subcommand-index (omega arith)
    c.subcommands-subcommand-items.ensures
