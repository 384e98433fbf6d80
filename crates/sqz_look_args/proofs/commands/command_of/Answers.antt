use Rattle.std.proofs.Common.{arith}
use Rattle.std.proofs.lemmas.Result.{IfOk-weaker}
use Rattle.sqz_look_args.specs.CommandLine.{listed_of}
use Rattle.sqz_look_args.proofs.CommandLemmas.{HasFirst-more, HasShape-whole}
use Rattle.sqz_look_args.proofs.commands.command_of.Goals as goal

pub loop-argument-preserved : goal.loop-argument-preserved
loop-argument-preserved c =
    HasFirst-more _ _ _ (listed_of c.args.subcommand) c.loop-argument.argument-index _ (omega arith)
    c.in_ok-command.ensures c.loop-argument.invariant c.in_ok-arg_of.ensures

pub returns : goal.returns
returns c = IfOk-weaker c.arg-5.result _ _
    (λ made added. HasShape-whole _ _ _ _ made _ _ _ _ (listed_of c.args.subcommand) c.loop-argument.argument-index (omega arith)
    c.loop-argument.invariant c.in_ok-arg.ensures c.flag.ensures c.in_ok-arg-2.ensures c.flag-2.ensures
    c.in_ok-arg-3.ensures c.flag-3.ensures added c.flag-4.ensures)
    c.arg-5.ensures
