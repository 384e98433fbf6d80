use Rattle.std.proofs.Common.{◌≡◌, ◌∙◌, ◌+◌, ◌-◌, ◌*◌, ◌/◌, ℕ, List, length, take, drop, sym, ap, subst, arith}
use Rattle.sqz_object.specs.Bytes.{bytes_of, words_of}
use Rattle.sqz_damage.specs.declared.gap.Gap.{Gap}
use Rattle.sqz_damage.specs.Filled.{AreGapsIn, filled}
use Rattle.sqz_damage.specs.Damaged.{words_there}
use Rattle.sqz_damage.specs.Mended.{between}
use Rattle.sqz_damage.proofs.MendLemmas.{between-front, take-front, between-back, drop-end}
use Rattle.sqz_damage.proofs.mend.mending.mend.Goals as goal

pub fill-requires-clause-gaps : goal.fill-requires-clause-gaps
fill-requires-clause-gaps c =
    let words = words_there c.args.file.now c.args.header.now in
    let count : length words ≡ (c.of-range.result.end - c.of-range.result.start) / 4 = omega (arith, c.of-range.ensures.end) in
    subst (λ (n : ℕ). AreGapsIn 0 n c.deref.result.now) count
    (subst (λ (gaps : List Gap). AreGapsIn 0 (length words) gaps) (sym c.deref.ensures.value) c.requires.gaps)

pub returns-clause-mended : goal.returns-clause-mended
returns-clause-mended c =
    let order = c.args.header.now.order in
    let offset = c.args.header.now.offset in
    let start = c.of-range.result.start in
    let end = c.of-range.result.end in
    let old = c.args.file.now in
    let mid = c.put.new.file in
    let new = c.fill.new.file in
    let words = words_there old c.args.header.now in
    let at = c.of-range.ensures.start in
    let to = c.of-range.ensures.end in
    let size : end - start ≡ 4 * length words = omega (arith, to) in
    let twelve : offset + 8 + 4 ≡ offset + 12 = omega arith in
    let put_after = subst (λ (n : ℕ). drop n mid ≡ drop n old) twelve c.put.ensures.after in
    let put_word = subst (λ (n : ℕ). between (offset + 8) n mid ≡ bytes_of order (end - start)) twelve c.put.ensures.word in
    let data_stays : drop start mid ≡ drop start old =
    drop-end mid old start (offset + 12) (omega (arith, at)) put_after in
    record {
      whole = λ none. let yes = c.is_none.ensures.1 none in let no = c.if-is_none.false in cc;
      mended = λ some. record {
        sized = c.fill.ensures.sized ∙ c.put.ensures.sized;
        before = take-front new mid (offset + 8) start (omega (arith, at)) c.fill.ensures.before ∙ c.put.ensures.before;
        size =
            between-front new mid (offset + 8) (offset + 12) start (omega (arith, at)) c.fill.ensures.before
            ∙ put_word ∙ ap (bytes_of order) size;
        after =
            between-front new mid (offset + 12) (offset + 64) start (omega (arith, at)) c.fill.ensures.before
            ∙ between-back mid old (offset + 12) (offset + 64) (offset + 12) (omega arith) (omega arith) put_after;
        words =
            ap (λ (n : ℕ). words_of order (take n (drop (offset + 64) new))) (sym size)
            ∙ ap (λ (n : ℕ). words_of order (take (end - start) (drop n new))) (sym at)
            ∙ c.fill.ensures.words
            ∙ ap (λ (bytes : List ℕ). filled (words_of order (take (end - start) bytes)) c.deref.result.now) data_stays
            ∙ ap (λ (ws : List ℕ). filled ws c.deref.result.now) c.of-range.ensures.words
            ∙ ap (filled words) c.deref.ensures.value;
        rest =
            let on : offset + 64 + 4 * length words ≡ end = omega (arith, at, to) in
            ap (λ (n : ℕ). drop n new) on ∙ c.fill.ensures.after
            ∙ drop-end mid old end (offset + 12) (omega (arith, at, to)) put_after
            ∙ ap (λ (n : ℕ). drop n old) (sym on);
      };
    }
