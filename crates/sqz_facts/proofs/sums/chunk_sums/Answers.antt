use Rattle.std.proofs.Common.{length, sym, ap, ◌∙◌, arith}
use Rattle.sqz_facts.proofs.SumLemmas.{IsSumming-start, sums-whole, sums-few, sums-end}
use Rattle.sqz_facts.proofs.SumLemmas.{IsSumming-free, IsSumming-live, IsSumming-dead}
use Rattle.sqz_facts.proofs.WalkLemmas.{header_begins, header_inside, objects-le}
use Rattle.sqz_facts.proofs.sums.chunk_sums.Goals as goal
use Rattle.sqz_facts.proofs.sums.chunk_sums.Goals.{in-Free, in_default, then-has, else-has}

pub loop-at-init : goal.loop-at-init
loop-at-init c = IsSumming-start c.args.marks.now c.args.heap.now.chunks c.data-data.ensures.chunks

pub known_chunk-chunk-requires-clause-begins : goal.known_chunk-chunk-requires-clause-begins
known_chunk-chunk-requires-clause-begins c =
    header_begins c.loop-at.invariant.walked c.data-data.result c.data-data.ensures.words (omega (arith, c.loop-at-test.true, c.len.ensures))

pub overflow_add-sums : goal.overflow_add-sums
overflow_add-sums c =
    omega (
      arith,
      sums-whole c.loop-at.invariant,
      sums-few c.loop-at.invariant,
      c.loop-at-test.true,
      c.len.ensures,
      c.data-data.ensures.few,
    )

pub overflow_add-sums-in-Free : goal.overflow_add-sums-in-Free
overflow_add-sums-in-Free c =
    omega (
      arith,
      sums-whole c.loop-at.invariant,
      header_inside c.loop-at.invariant.walked c.data-data.result c.data-data.ensures.words
          (omega (arith, c.loop-at-test.true, c.len.ensures)) c.known_chunk-chunk.result c.known_chunk-chunk.ensures,
      c.data-data.ensures.few,
    )

pub overflow_add-sums-then-has : goal.overflow_add-sums-then-has
overflow_add-sums-then-has c =
    omega (
      arith,
      sums-whole c.loop-at.invariant,
      header_inside c.loop-at.invariant.walked c.data-data.result c.data-data.ensures.words
          (omega (arith, c.loop-at-test.true, c.len.ensures)) c.known_chunk-chunk.result c.known_chunk-chunk.ensures,
      c.data-data.ensures.few,
    )

pub overflow_add-sums-else-has : goal.overflow_add-sums-else-has
overflow_add-sums-else-has c =
    omega (
      arith,
      sums-whole c.loop-at.invariant,
      header_inside c.loop-at.invariant.walked c.data-data.result c.data-data.ensures.words
          (omega (arith, c.loop-at-test.true, c.len.ensures)) c.known_chunk-chunk.result c.known_chunk-chunk.ensures,
      c.data-data.ensures.few,
    )

pub overflow_add-object : goal.overflow_add-object
overflow_add-object c =
    omega (arith, objects-le c.loop-at.invariant.walked, c.loop-at-test.true, c.len.ensures, c.data-data.ensures.few)

pub loop-at-preserved : goal.loop-at-preserved
loop-at-preserved c =
    let so_far = c.loop-at.invariant in
    elim c.match-chunk.branch [
      | in-Free w ↦
          rw (w.sums-is, w.object-is)
          (IsSumming-free so_far c.data-data.result c.data-data.ensures.words (omega (arith, c.loop-at-test.true, c.len.ensures))
          c.known_chunk-chunk.result c.known_chunk-chunk.ensures w.in-Free.is)
      | in_default w ↦ elim w.if-has.branch [
        | then-has v ↦
            rw (w.sums-is, w.object-is, v.sums-is)
            (IsSumming-live so_far c.data-data.result c.data-data.ensures.words (omega (arith, c.loop-at-test.true, c.len.ensures))
            c.known_chunk-chunk.result c.known_chunk-chunk.ensures w.in_default.not-Free (sym w.has.ensures ∙ v.if-has.true))
        | else-has v ↦
            rw (w.sums-is, w.object-is, v.sums-is)
            (IsSumming-dead so_far c.data-data.result c.data-data.ensures.words (omega (arith, c.loop-at-test.true, c.len.ensures))
            c.known_chunk-chunk.result c.known_chunk-chunk.ensures w.in_default.not-Free (sym w.has.ensures ∙ v.if-has.false))
      ]
    ]

pub returns : goal.returns
returns c =
    sums-end c.loop-at.invariant (omega (arith, c.loop-at-test.false, c.len.ensures, ap length c.data-data.ensures.words))
