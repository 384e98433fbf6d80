use Rattle.std.proofs.Common.{◌*◌, ℕ, is_some, ap, ◌∙◌, sym, arith}
use Rattle.std.proofs.lemmas.Option.{same_Some}
use Rattle.sqz_image.specs.Objects.{object_count}
use Rattle.sqz_trace.proofs.LiveWordLemmas.{length-live, live_words-le-words}
use Rattle.sqz_tool.proofs.CompactionLemmas.{bytes_are, few_words, place_of_special, same_summary}
use Rattle.sqz_tool.proofs.compaction.move_live_objects.Goals as goal

pub unwrap-special-requires : goal.unwrap-special-requires
unwrap-special-requires g c =
    let is = c.heap-heap.ensures in
    let special = place_of_special c.args.image.now.memory c.args.plan.now.weak c.args.marked.now.marks c.special.result
    c.requires.reachable (rw is at c.special.ensures.special)
    c.in_ok-forward.forward (rw is at c.in_ok-forward.ensures.places) (rw is at c.special.ensures.inside) in
    ap is_some (c.place.ensures.place ∙ special)

pub overflow_mul-summary : goal.overflow_mul-summary
overflow_mul-summary g c =
    let le = live_words-le-words c.args.image.now.memory c.args.marked.now.marks c.requires.reachable.reached.sized in
    let live = rw c.deref.ensures.value at c.total.ensures in
    omega (arith, live, c.requires.whole, rw c.heap-heap.ensures at c.heap_bounds.ensures.words, le)

pub returns-clause-compaction : goal.returns-clause-compaction
returns-clause-compaction g c =
    let image = c.args.image.now in
    let marks = c.args.marked.now.marks in let weak = c.args.plan.now.weak in
    let is = c.heap-heap.ensures in
    let reachable = c.requires.reachable in
    let places = rw is at c.in_ok-forward.ensures.places in
    let words = rw is at (c.in_ok-pieces.ensures.whole marks c.in_ok-forward.ensures.places (rw (← is) at reachable.reached.sized)) in
    let found = rw is at c.special.ensures.special in
    let inside = rw is at c.special.ensures.inside in
    let special = place_of_special image.memory weak marks c.special.result reachable found c.in_ok-forward.forward places inside in
    let kept = c.count.ensures ∙ sym (length-live image.memory marks reachable.reached.sized) in
    let le = live_words-le-words image.memory marks reachable.reached.sized in
    let live = (rw c.deref.ensures.value at c.total.ensures) ∙ c.requires.whole in
    let report = rw is at (c.in_ok-census.ensures.text (rw (← is) at reachable) c.in_ok-forward.ensures.places) in
    record {
      marks = marks;
      has_nil = c.requires.has_nil;
      reachable = reachable;
      sound = c.requires.sound;
      bytes = bytes_are image weak marks c.in_ok-pieces.pieces c.requires.chunks words c.unwrap-special.result c.special.result reachable found
          (same_Some _ _ (sym c.unwrap-special.ensures ∙ c.place.ensures.place ∙ special));
      few = few_words image weak marks c.in_ok-pieces.pieces c.requires.chunks words (omega (arith, le, rw is at c.heap_bounds.ensures.words));
      counted = same_summary (c.len.ensures.objects ∙ ap object_count is) kept c.data_size.ensures (ap (λ (n : ℕ). 4 * n) live);
      reported = report;
    }
