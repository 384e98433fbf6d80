use Rattle.std.proofs.Common.{◌∙◌, ℕ, length, ap, arith}
use Rattle.sqz_damage.proofs.DataLemmas.{AreSound-none}
use Rattle.sqz_damage.proofs.mend.damage.gaps_in.Goals as goal

pub gaps_of-requires-clause-few : goal.gaps_of-requires-clause-few
gaps_of-requires-clause-few c =
    let words = ap (length {A = ℕ}) (c.of-words.ensures ∙ c.of-range.ensures.words) in
    omega (arith, c.of-range.ensures.end, c.of-range.ensures.few, words)

pub gaps_of-requires-clause-within : goal.gaps_of-requires-clause-within
gaps_of-requires-clause-within c =
    let words = ap (length {A = ℕ}) (c.of-words.ensures ∙ c.of-range.ensures.words) in
    let within = (AreSound-none c.args.header.now.words c.requires.sound).within in
    omega (arith, within, c.of-range.ensures.end, c.of-range.ensures.stated, words, c.base.ensures)
