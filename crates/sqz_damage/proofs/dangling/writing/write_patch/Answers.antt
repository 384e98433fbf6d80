use Rattle.std.proofs.Common.{◌*◌, ◌∙◌, arith}
use Rattle.std.proofs.lemmas.Slice.{drop-put_mid}
use Rattle.sqz_damage.proofs.FillLemmas.{words_of-put_mid}
use Rattle.sqz_damage.proofs.dangling.writing.write_patch.Goals as goal

pub returns-clause-words : goal.returns-clause-words
returns-clause-words c =
    words_of-put_mid c.args.order c.args.bytes.now c.copy_from_slice.new.self c.args.patch.word _ c.args.patch.value
    (omega (arith, c.requires)) (omega (arith, c.put_word.type_inv))
    (c.copy_from_slice.ensures.after ∙ c.put_word.ensures.spelled) (omega arith)

pub returns-clause-rest : goal.returns-clause-rest
returns-clause-rest c =
    drop-put_mid (4 * c.args.patch.word) _ c.args.bytes.now c.copy_from_slice.new.self _
    (omega (arith, c.requires)) (omega (arith, c.requires)) (omega (arith, c.copy_from_slice.ensures.len))
