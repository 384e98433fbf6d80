use Rattle.std.proofs.Common.{◌*◌, ◌∙◌, arith}
use Rattle.std.proofs.lemmas.Slice.{drop-put_mid}
use Rattle.sqz_damage.specs.Filled.{free_header}
use Rattle.sqz_damage.proofs.FillLemmas.{words_of-put_mid}
use Rattle.sqz_damage.proofs.filling.put_free_chunk.Goals as goal

pub returns-clause-words : goal.returns-clause-words
returns-clause-words c =
    words_of-put_mid c.args.order c.args.bytes.now c.copy_from_slice.new.self c.args.gap.first _ (free_header c.args.gap.words)
    (omega (arith, c.requires.inside)) (omega (arith, c.requires.inside, c.requires.few))
    (c.copy_from_slice.ensures.after ∙ c.put_word.ensures.spelled) (omega arith)

pub returns-clause-rest : goal.returns-clause-rest
returns-clause-rest c =
    drop-put_mid (4 * c.args.gap.first) _ c.args.bytes.now c.copy_from_slice.new.self _
    (omega (arith, c.requires.some, c.requires.inside)) (omega (arith, c.requires.inside)) (omega (arith, c.copy_from_slice.ensures.len))
