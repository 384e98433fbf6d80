use Rattle.std.proofs.Common.{ℕ, ◌<◌, List, length, slice_index, ap, sym, ◌∙◌, arith}
use Rattle.sqz_object.specs.declared.chunk.Chunk.{Chunk}
use Rattle.sqz_object.specs.Chunk.{before}
use Rattle.sqz_slide.specs.ClassWord.{is_class_word}
use Rattle.sqz_slide.proofs.HeaderLemmas.{moved-header_word}
use Rattle.sqz_slide.proofs.MovedLemmas.{moved-strong_word, moved-weak_word, moved-untraced_word}
use Rattle.sqz_slide.proofs.moved_words.moved_word.Goals as goal

pub returns-then-k-before : goal.returns-then-k-before
returns-then-k-before c marks places =
    let header = c.header-before.ensures in
    let chunk = c.object-object.result in
    let inside : before chunk < length chunk = rw header.described at header.headed in
    let before_is = ap (λ (header : Chunk). header.before) header.described in
    let class = sym (ap (λ (header : Chunk). is_class_word header.kind c.args.k) c.header.ensures.described)
    ∙ sym c.is_class_word.ensures ∙ c.if-is_class_word.false in
    rw (← c.object-object.ensures)
    (c.at-word.ensures ∙ ap (λ (words : List ℕ). slice_index words c.args.k) c.words.ensures
    ∙ sym (moved-header_word c.args.heap.now c.args.weak marks chunk c.args.k inside class
    (omega (arith, before_is, c.if-k-before.true))))

pub returns-then-k-before-2 : goal.returns-then-k-before-2
returns-then-k-before-2 c marks places =
    let header = c.header-before.ensures in
    rw (← c.object-object.ensures)
    (rw c.at-word.ensures at (c.moved_field.ensures.moved marks places)
    ∙ sym (moved-strong_word c.args.heap.now c.args.weak marks _ _ c.words.ensures _ header.described header.headed
    _ c.strong_fields.ensures.strong c.args.k c.if-k-before.false c.if-k-before-2.true))

pub returns-then-is_weak : goal.returns-then-is_weak
returns-then-is_weak c marks places =
    let header = c.header-before.ensures in
    let inside : c.args.k < length c.object-object.result = rw (← c.object-object.ensures) at c.requires.word in
    rw (← c.object-object.ensures)
    (rw c.at-word.ensures at (c.moved_weak.ensures c.args.weak marks places (c.nil_place.ensures marks places))
    ∙ sym (moved-weak_word c.args.heap.now c.args.weak marks _ _ c.words.ensures _ header.described header.headed
    _ c.strong_fields.ensures.strong c.args.k c.if-k-before.false (sym c.is_weak.ensures ∙ c.if-is_weak.true) inside
    c.if-k-before-2.false))

pub returns-else-is_weak : goal.returns-else-is_weak
returns-else-is_weak c marks places =
    let header = c.header-before.ensures in
    rw (← c.object-object.ensures)
    (c.at-word.ensures
    ∙ sym (moved-untraced_word c.args.heap.now c.args.weak marks _ _ c.words.ensures _ header.described header.headed
    _ c.strong_fields.ensures.strong c.args.k c.if-k-before.false (sym c.is_weak.ensures ∙ c.if-is_weak.false)
    c.if-k-before-2.false))
