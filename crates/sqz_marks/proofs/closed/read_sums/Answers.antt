use Rattle.std.proofs.Common.{◌≡◌, ◌+◌, ◌<◌, length, get_or, set, sym, subst, ◌∙◌, arith, inl, inr}
use Rattle.std.proofs.lemmas.Bool.{cases_eq}
use Rattle.std.proofs.lemmas.List.{get_or-set_same, get_or-set_other, length-set}
use Rattle.std.specs.Slots.{slots_items}
use Rattle.sqz_marks.proofs.StepLemmas.{item_at}
use Rattle.sqz_marks.proofs.closed.read_sums.Goals as goal
use Rattle.sqz_marks.proofs.closed.read_sums.Goals.{After-word}

-- the word that was read is the region's
word_is : (c : After-word) → get_or (slots_items c.args.closed.now.words) (c.args.first + c.loop-region.region) 0 ≡ c.word.result
word_is c = item_at (slots_items c.args.closed.now.words) (c.args.first + c.loop-region.region) c.word.result 0 c.word.ensures

pub overflow_cast-sums : goal.overflow_cast-sums
overflow_cast-sums c =
    let few = c.requires.few c.loop-region.region (omega (arith, c.loop-region-test.true, c.loop-region.auto.sums)) in
    omega (arith, few, word_is c)

pub loop-region-preserved : goal.loop-region-preserved
loop-region-preserved c =
    let words = slots_items c.args.closed.now.words in let at = c.loop-region.region in let old = c.loop-region.sums in
    let inside : at < length old = omega (arith, c.loop-region-test.true, c.loop-region.auto.sums) in
    record {
      sized = length-set old at c.word.result ∙ c.loop-region.invariant.sized;
      read = λ region lt. elim (cases_eq region at) [
        | inl same ↦ subst (λ i. get_or (set old at c.word.result) i 0 ≡ get_or words (c.args.first + i) 0) (sym same)
            (get_or-set_same old at c.word.result 0 inside ∙ sym (word_is c))
        | inr differs ↦ get_or-set_other old at region c.word.result 0 differs
            ∙ c.loop-region.invariant.read region (omega (arith, lt, differs))
      ];
    }
