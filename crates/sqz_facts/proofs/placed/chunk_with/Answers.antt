use Rattle.std.proofs.Common.{arith}
use Rattle.sqz_facts.proofs.WalkLemmas.{header_begins, objects-le, HasWord-found, IsSearching-more_free, IsSearching-more_object}
use Rattle.sqz_facts.proofs.placed.chunk_with.Goals as goal

pub known_chunk-header-requires-clause-begins : goal.known_chunk-header-requires-clause-begins
known_chunk-header-requires-clause-begins c =
    header_begins c.loop-at.invariant.walked c.data-data.result c.data-data.ensures.words (omega (arith, c.loop-at-test.true, c.len.ensures))

pub returns-then-word-end-clause-found : goal.returns-then-word-end-clause-found
returns-then-word-end-clause-found c =
    HasWord-found c.args.heap.now c.loop-at.invariant c.data-data.result c.data-data.ensures.words
    (omega (arith, c.loop-at-test.true, c.len.ensures)) c.known_chunk-header.result c.known_chunk-header.ensures
    c.if-word-end.true

pub overflow_add-object : goal.overflow_add-object
overflow_add-object c =
    omega (arith, objects-le c.loop-at.invariant.walked, c.loop-at-test.true, c.len.ensures, c.data-data.ensures.few)

pub loop-at-preserved-in-Free : goal.loop-at-preserved-in-Free
loop-at-preserved-in-Free c =
    IsSearching-more_free c.args.heap.now c.loop-at.invariant c.data-data.result c.data-data.ensures.words
    (omega (arith, c.loop-at-test.true, c.len.ensures)) c.known_chunk-header.result c.known_chunk-header.ensures
    c.in-Free.is c.if-word-end.false

pub loop-at-preserved : goal.loop-at-preserved
loop-at-preserved c =
    IsSearching-more_object c.args.heap.now c.loop-at.invariant c.data-data.result c.data-data.ensures.words
    (omega (arith, c.loop-at-test.true, c.len.ensures)) c.known_chunk-header.result c.known_chunk-header.ensures
    c.in_default.not-Free c.if-word-end.false
