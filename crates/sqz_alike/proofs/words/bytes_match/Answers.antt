use Rattle.std.proofs.Common.{◌≡◌, ◌∙◌, ◌<◌, Bool, true, false, not, List, ℕ, length, slice_index, sym, ap, refl, arith}
use Rattle.std.specs.Prelude.{nat_eq}
use Rattle.std.specs.Cmp.Lexicographic.{pointwise}
use Rattle.sqz_object.specs.Bytes.{bytes_of}
use Rattle.sqz_alike.specs.Untraced.{same_word}
use Rattle.sqz_alike.proofs.WordLemmas.{pointwise-all, pointwise-not}
use Rattle.sqz_alike.proofs.words.bytes_match.Goals as goal

is_false : (b : Bool) → true ≡ not b → b ≡ false
is_false true e = absurd cc
is_false false e = refl

pub returns-then-ne : goal.returns-then-ne
returns-then-ne c =
    let one : c.put_word.result ≡ bytes_of c.args.order (slice_index c.args.words.now c.loop-index.index) =
    c.put_word.ensures.spelled ∙ ap (bytes_of c.args.order) c.at.ensures in
    let other : c.put_word-in-loop-index.result ≡ bytes_of c.args.other_order (slice_index c.args.others.now c.loop-index.index) =
    c.put_word-in-loop-index.ensures.spelled ∙ ap (bytes_of c.args.other_order) c.at-in-loop-index.ensures in
    let apart : same_word c.args.order c.args.other_order (slice_index c.args.words.now c.loop-index.index) (slice_index c.args.others.now c.loop-index.index) ≡ false =
    sym (ap (λ (xs : List ℕ). pointwise nat_eq xs c.put_word-in-loop-index.result) one
    ∙ ap (pointwise nat_eq (bytes_of c.args.order (slice_index c.args.words.now c.loop-index.index))) other)
    ∙ is_false _ c.if-ne.ensures in
    let long : length c.args.words.now ≡ length c.args.others.now = sym c.len.ensures ∙ c.if-len.false ∙ c.len-2.ensures in
    let within : c.loop-index.index < length c.args.words.now = omega (arith, c.len-index-end.ensures, c.loop-index-test.true) in
    sym (pointwise-not (same_word c.args.order c.args.other_order) c.args.words.now c.args.others.now 0 0 c.loop-index.index within
    (omega (arith, within, long)) apart)

pub returns : goal.returns
returns c =
    sym (pointwise-all (same_word c.args.order c.args.other_order) c.args.words.now c.args.others.now 0 0
    (sym c.len.ensures ∙ c.if-len.false ∙ c.len-2.ensures)
    (λ k lt. c.loop-index.invariant k (omega (arith, c.len-index-end.ensures, c.loop-index-test.false))))
