use Rattle.std.proofs.Common.{◌∙◌}
use Rattle.std.proofs.lemmas.Result.{IfOk-weaker}
use Rattle.sqz_census.proofs.TextLemmas.{padded_integral-zeros}
use Rattle.sqz_census.proofs.printing.place_text.Goals as goal

pub returns-in-Some : goal.returns-in-Some
returns-in-Some c =
    let written = rw (c.laid_out.ensures, c.in_radix.ensures) at c.format.ensures.ok in
    rw c.in-Some.is (IfOk-weaker c.format.result _ _ (λ text is. is ∙ padded_integral-zeros 8 _) written)
