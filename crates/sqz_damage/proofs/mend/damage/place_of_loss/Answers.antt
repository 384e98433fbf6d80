use Rattle.std.proofs.Common.{◌∙◌, ℕ, length, ap, arith}
use Rattle.sqz_damage.proofs.mend.damage.place_of_loss.Goals as goal

pub loss_in-requires-clause-few : goal.loss_in-requires-clause-few
loss_in-requires-clause-few c =
    let words = ap (length {A = ℕ}) (c.of-words.ensures ∙ c.of-range.ensures.words) in
    omega (arith, words, c.requires.few)
