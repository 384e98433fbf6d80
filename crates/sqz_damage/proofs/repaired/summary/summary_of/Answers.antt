use Rattle.std.specs.Prelude.{Option, Some, None, Result, Ok, Err, IfOk, IfSome}
use Rattle.sqz_damage.specs.declared.repaired.summary.RepairSummary.{RepairSummary}
use Rattle.sqz_damage.specs.Summaries.{IsSummaryOf, IsSummaryOfMended}
use Rattle.sqz_damage.proofs.repaired.summary.summary_of.Goals as goal

pub returns-in-Ok : goal.returns-in-Ok
returns-in-Ok g c = of_mended c.repair_summary.result c.repair_summary.ensures
  where
    of_mended : {E : Type 0} (result : Result (Option RepairSummary) E)
        → IfOk result (λ summary. IfSome summary (IsSummaryOf c.args.weak c.in-Ok.mended.bytes.items))
        → IfOk result (λ summary. IfSome summary (IsSummaryOfMended c.args.weak c.args.file.items))
    of_mended (Ok (Some summary)) of = record { mended = c.in-Ok.mended; is_mended = c.in-Ok.ensures.mended; of = of }
    of_mended (Ok None) of = of
    of_mended (Err error) of = of
