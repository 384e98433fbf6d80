use Rattle.std.proofs.Common.{Bool, is_some, ap, subst, ◌∙◌, arith}
use Rattle.std.specs.Prelude.{IsTrue}
use Rattle.sqz_image.proofs.FrontLemmas.{BeginsNoImage-no_header, BeginsNoImage-words_fault}
use Rattle.sqz_image.proofs.header.Header.is_refused.Goals as goal

pub returns-in-Ok : goal.returns-in-Ok
returns-in-Ok c some =
    BeginsNoImage-words_fault c.args.front.now c.in-Ok.header (omega (arith, c.if-front.false)) c.in-Ok.ensures.header
    (subst (λ (found : Bool). IsTrue found) (c.is_some.ensures ∙ ap is_some c.words_fault.ensures) some)

pub returns-in-Err : goal.returns-in-Err
returns-in-Err c some =
    BeginsNoImage-no_header c.args.front.now (omega (arith, c.if-front.false)) c.in-Err.ensures.none
