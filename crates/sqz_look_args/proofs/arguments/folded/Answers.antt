use Rattle.std.proofs.Common.{codes}
use Rattle.std.proofs.lemmas.Result.{IfOk-weaker}
use Rattle.sqz_look_args.specs.CommandLine.{flag_option}
use Rattle.sqz_look_args.proofs.CommandLemmas.{HasRule-exclusive}
use Rattle.sqz_look_args.proofs.arguments.folded.Goals as goal

pub returns : goal.returns
returns c = IfOk-weaker c.conflicts_with.result _ _
    (λ made added. HasRule-exclusive c.flag.result made (flag_option (codes "folded")) _ added c.flag.ensures) c.conflicts_with.ensures
