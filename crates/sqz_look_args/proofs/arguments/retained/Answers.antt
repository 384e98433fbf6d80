use Rattle.std.proofs.Common.{codes}
use Rattle.std.proofs.lemmas.Result.{IfOk-weaker}
use Rattle.sqz_look_args.specs.CommandLine.{exclusive_flag, flag_option}
use Rattle.sqz_look_args.proofs.CommandLemmas.{HasRule-exclusive}
use Rattle.sqz_look_args.proofs.arguments.retained.Goals as goal

pub returns : goal.returns
returns c =
    let first = c.in_ok-conflicts_with.field-0 in
    let once = HasRule-exclusive c.flag.result first (flag_option (codes "retained")) _ c.in_ok-conflicts_with.ensures c.flag.ensures in
    IfOk-weaker c.conflicts_with-2.result _ _ (λ made added. HasRule-exclusive first made (exclusive_flag (codes "retained")) _ added once)
    c.conflicts_with-2.ensures
