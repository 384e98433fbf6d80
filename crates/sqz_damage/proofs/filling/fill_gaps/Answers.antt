use Rattle.std.proofs.Common.{ℕ, List, ◌/◌, length, set, get_or, sym, ap, ◌∙◌}
use Rattle.sqz_object.specs.Bytes.{words_of}
use Rattle.sqz_damage.specs.declared.gap.Gap.{Gap}
use Rattle.sqz_damage.specs.Filled.{free_header}
use Rattle.sqz_damage.proofs.FillLemmas.{gap_inside, filled-take}
use Rattle.sqz_damage.proofs.filling.fill_gaps.Goals as goal

-- the default of a read
abbrev none : Gap
none = record { first = 0; words = 0 }

pub put_free_chunk-requires-clause-some : goal.put_free_chunk-requires-clause-some
put_free_chunk-requires-clause-some c =
    (gap_inside 0 (length c.args.bytes.now / 4) c.args.gaps.now c.loop-gap.gap-index none c.requires.inside c.loop-gap-test.true).0

pub put_free_chunk-requires-clause-inside : goal.put_free_chunk-requires-clause-inside
put_free_chunk-requires-clause-inside c =
    rw c.loop-gap.auto.bytes
    (gap_inside 0 (length c.args.bytes.now / 4) c.args.gaps.now c.loop-gap.gap-index none c.requires.inside c.loop-gap-test.true).1

pub loop-gap-preserved : goal.loop-gap-preserved
loop-gap-preserved c =
    let gaps = c.args.gaps.now in
    let i = c.loop-gap.gap-index in
    let gap = get_or gaps i none in
    record {
      words =
          c.put_free_chunk.ensures.words
          ∙ ap (λ (ws : List ℕ). set ws gap.first (free_header gap.words)) c.loop-gap.invariant.words
          ∙ sym (filled-take (words_of c.args.order c.args.bytes.now) gaps i none c.loop-gap-test.true);
      rest = (rw c.loop-gap.auto.bytes at c.put_free_chunk.ensures.rest) ∙ c.loop-gap.invariant.rest;
    }
