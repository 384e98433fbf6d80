use Rattle.std.proofs.Common.{◌+◌, ◌<◌, sym, ◌∙◌, arith}
use Rattle.sqz_image.specs.Objects.{object_count}
use Rattle.sqz_trace.proofs.LiveWordLemmas.{live_words_more_yes, live_words_more_no, live_words_below-le-words}
use Rattle.sqz_regions.proofs.sums.live_words_between.Goals as goal
use Rattle.sqz_regions.proofs.sums.live_words_between.Goals.{then-has, else-has}

pub overflow_add-words : goal.overflow_add-words
overflow_add-words c =
    let memory = c.args.heap.now in
    let marks = c.args.marks.now in
    let object = c.loop-object.object in
    let more = live_words_more_yes memory marks object (omega arith) (sym c.has.ensures ∙ c.if-has.true) in
    omega (arith, c.chunk_length-words.ensures.length, more, live_words_below-le-words memory marks (object + 1))

pub loop-object-preserved : goal.loop-object-preserved
loop-object-preserved c =
    let memory = c.args.heap.now in
    let marks = c.args.marks.now in
    let object = c.loop-object.object in
    let lt : c.loop-object.object < object_count c.args.heap.now = omega arith in
    elim c.if-has.branch [
      | then-has w ↦
          omega (
            arith,
            w.chunk_length-words.ensures.length,
            live_words_more_yes memory marks object lt (sym c.has.ensures ∙ w.if-has.true),
          )
      | else-has w ↦ omega (arith, live_words_more_no memory marks object lt (sym c.has.ensures ∙ w.if-has.false))
    ]
