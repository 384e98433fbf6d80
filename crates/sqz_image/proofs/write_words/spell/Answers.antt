use Rattle.std.proofs.Common.{ℕ, ◌∙◌, arith, length-take, length-drop}
use Rattle.sqz_image.proofs.Spelling.{take-put_word}
use Rattle.sqz_image.proofs.write_words.spell.Goals as goal

pub loop-k-preserved : goal.loop-k-preserved
loop-k-preserved c =
    take-put_word c.args.order c.args.words.now c.loop-k.block c.copy_from_slice.new.self c.loop-k.k _ c.loop-k.invariant
    (c.copy_from_slice.ensures.after ∙ c.put_word.ensures.spelled)
    (omega (arith, length-take {A = ℕ}, length-drop {A = ℕ}))
    c.loop-k-test.true (omega arith)
