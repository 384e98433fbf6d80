use Rattle.std.proofs.Common.{◌+◌, ◌^◌, ◌<◌, get_or, arith}
use Rattle.sqz_image.specs.Objects.{object_count}
use Rattle.sqz_histogram.specs.Keys.{no_entry}
use Rattle.sqz_histogram.proofs.TallyLemmas.{entry_key-lt, entry_room, entry_more, no_group_more, FitWords-tallies, AreTallies-all}
use Rattle.sqz_histogram.proofs.tallies.tallies_of.Goals as goal
use Rattle.sqz_histogram.proofs.tallies.tallies_of.Goals.{then-entry, else-entry, After-index_mut-tally}

pub index_mut-tally-requires : goal.index_mut-tally-requires
index_mut-tally-requires c =
    let (weak, kept) = c.requires.entries in
    let object = c.loop-entry.entry-index in
    let inside : c.loop-entry.entry-index < object_count c.args.heap.now = omega (arith, c.loop-entry-test.true, kept.sized) in
    let lt =
    entry_key-lt c.args.heap.now weak c.args.marks.now object inside c.loop-entry.tallies.items (c.loop-entry.invariant weak kept) _
    (kept.each object inside) c.if-entry.true in
    omega (arith, lt, c.loop-entry.tallies.ok.0)

-- the tally of an entry has room for one object more and its words
has_room : (c : After-index_mut-tally)
    → (c.index_mut-tally.result.now.count + 1 < 2 ^ 32)
    × (c.index_mut-tally.result.now.words + (get_or c.args.entries.now c.loop-entry.entry-index no_entry).words < 2 ^ 32)
has_room c =
    let (weak, kept) = c.requires.entries in
    let object = c.loop-entry.entry-index in
    let inside : c.loop-entry.entry-index < object_count c.args.heap.now = omega (arith, c.loop-entry-test.true, kept.sized) in
    entry_room c.args.heap.now weak c.args.marks.now object inside c.loop-entry.tallies.items (c.loop-entry.invariant weak kept) _
    (kept.each object inside) c.if-entry.true c.index_mut-tally.result.now c.index_mut-tally.ensures.value
    c.heap_bounds.ensures.words (omega (arith, inside, c.len.ensures.objects, c.len.ensures.few))

pub overflow_add-tally : goal.overflow_add-tally
overflow_add-tally c = omega (arith, (has_room (goal.at.overflow_add-tally c).After-index_mut-tally).0)

pub overflow_add-tally-then-entry : goal.overflow_add-tally-then-entry
overflow_add-tally-then-entry c =
    omega (arith, (has_room (goal.at.overflow_add-tally-then-entry c).After-index_mut-tally).1)

pub loop-entry-preserved : goal.loop-entry-preserved
loop-entry-preserved c weak kept =
    let memory = c.args.heap.now in
    let marks = c.args.marks.now in
    let object = c.loop-entry.entry-index in
    let so_far = c.loop-entry.invariant weak kept in
    let inside : c.loop-entry.entry-index < object_count c.args.heap.now = omega (arith, c.loop-entry-test.true, kept.sized) in
    let known = kept.each object inside in
    elim c.if-entry.branch [
      | then-entry w ↦
          rw w.tallies-is
          (entry_more memory weak marks object inside c.loop-entry.tallies.items so_far _ known w.if-entry.true
          w.index_mut-tally.result.now w.index_mut-tally.ensures.value)
      | else-entry w ↦
          rw w.tallies-is
          (no_group_more memory weak marks object inside c.loop-entry.tallies.items so_far _ known w.if-entry.false
          (omega (arith, c.len.ensures.objects, c.len.ensures.few)))
    ]

pub returns-clause-tallies : goal.returns-clause-tallies
returns-clause-tallies c weak kept =
    AreTallies-all c.args.heap.now weak c.args.marks.now c.loop-entry.entry-index c.loop-entry.tallies.items c.requires.sized
    (omega (arith, c.loop-entry-test.false, kept.sized)) (c.loop-entry.invariant weak kept)

pub returns-clause-fit : goal.returns-clause-fit
returns-clause-fit c =
    let (weak, kept) = c.requires.entries in
    FitWords-tallies c.args.heap.now weak c.args.marks.now c.loop-entry.tallies.items c.requires.sized c.heap_bounds.ensures.words
    (omega (arith, c.len.ensures.objects, c.len.ensures.few)) (returns-clause-tallies c weak kept)
