use Rattle.std.proofs.Common.{◌∙◌, sym, arith}
use Rattle.std.specs.Prelude.{nat_eq}
use Rattle.sqz_alike.proofs.WordLemmas.{pointwise-all}
use Rattle.sqz_alike.proofs.words.same_words.Goals as goal

pub returns : goal.returns
returns c =
    sym (pointwise-all nat_eq c.args.words.now c.args.others.now 0 0 (sym c.len.ensures ∙ c.if-len.false ∙ c.len-2.ensures)
    (λ k lt. c.loop-index.invariant k (omega (arith, c.len-index-end.ensures, c.loop-index-test.false))))
