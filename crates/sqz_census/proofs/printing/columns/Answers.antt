use Rattle.std.proofs.Common.{◌∙◌}
use Rattle.std.proofs.lemmas.Result.{IfOk-weaker}
use Rattle.sqz_census.proofs.TextLemmas.{columns-grouped}
use Rattle.sqz_census.proofs.printing.columns.Goals as goal

pub returns : goal.returns
returns c =
    let written = rw (c.laid_out.ensures, c.laid_out-2.ensures) at c.format.ensures.ok in
    IfOk-weaker c.format.result _ _ (λ text is. is ∙ columns-grouped c.args.count c.args.bytes) written
