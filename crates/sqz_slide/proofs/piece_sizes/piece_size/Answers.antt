use Rattle.std.proofs.Common.{◌≡◌, ◌<◌, ◌+◌, ◌-◌, ◌∙◌, arith}
use Rattle.sqz_image.specs.Objects.{object_count}
use Rattle.sqz_trace.proofs.LiveWordLemmas.{live_words_more_yes}
use Rattle.sqz_slide.proofs.AddressLemmas.{is_marked-place}
use Rattle.sqz_slide.proofs.SizeLemmas.{live_words_below-rises, dead_between}
use Rattle.sqz_slide.proofs.piece_sizes.piece_size.Goals as goal

pub returns-then-first-end : goal.returns-then-first-end
returns-then-first-end c marks places =
    let memory = c.args.heap.now in
    let front = c.first_live-first in
    let back = c.end_of_live-end in
    let before = dead_between memory marks c.args.forward.now places c.args.from front.result front.ensures.low
    (omega arith) front.ensures.none in
    let behind = dead_between memory marks c.args.forward.now places back.result c.args.to back.ensures.high
    c.requires.inside back.ensures.none in
    let same : front.result ≡ back.result = c.if-first-end.true in
    omega (arith, before, rw same at before, behind)

pub returns : goal.returns
returns c marks places =
    let memory = c.args.heap.now in
    let forward = c.args.forward.now in
    let front = c.first_live-first in
    let back = c.end_of_live-end in
    let before = dead_between memory marks forward places c.args.from front.result front.ensures.low (omega arith) front.ensures.none in
    let behind = dead_between memory marks forward places back.result c.args.to back.ensures.high c.requires.inside back.ensures.none in
    let some : c.first_live-first.result < c.end_of_live-end.result = omega (arith, back.ensures.low, c.if-first-end.false) in
    let last : c.end_of_live-end.result - 1 < object_count c.args.heap.now = omega arith in
    let first_marked = is_marked-place memory marks forward front.result places (omega arith) ∙ front.ensures.there (omega arith) in
    let last_marked = is_marked-place memory marks forward (back.result - 1) places last ∙ back.ensures.there some in
    let begin = c.begin_of-begin.ensures.begin marks places first_marked in
    let end = c.begin_of-last.ensures.begin marks places last_marked in
    let more = live_words_more_yes memory marks (back.result - 1) last last_marked in
    let next : c.end_of_live-end.result - 1 + 1 ≡ c.end_of_live-end.result = omega arith in
    let rises = live_words_below-rises memory marks front.result back.result back.ensures.low (omega arith) in
    omega (
      arith,
      before,
      behind,
      begin,
      end,
      c.chunk_length.ensures.length,
      rw next at more,
      rises,
      c.saturating_sub.ensures,
      c.from-length.ensures,
    )
