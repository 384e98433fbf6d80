use Rattle.std.proofs.Common.{◌≡◌, ℕ, ◌+◌, ◌^◌, ◌<◌, ◌≤◌, Some, length, set, sym, ap, subst, ◌∙◌}
use Rattle.std.specs.Prelude.{Option, unwrap_or, replicate}
use Rattle.std.specs.List.{concat}
use Rattle.sqz_image.specs.Objects.{Memory, object_count, chunk_words, find}
use Rattle.sqz_regions.specs.Regions.{Regioning, region_at, region_count}
use Rattle.sqz_marks.specs.Table.{start_of}
use Rattle.sqz_marks.proofs.KeptLemmas.{IsKept-opening, HasFewWords-heap}
use Rattle.sqz_marks.proofs.table.MarkTable.new.Goals as goal

pub of_words-requires : goal.of_words-requires
of_words-requires c =
    let key = c.of.result.value in let special = c.special-special.result in
    let is_key : c.args.regions.now ≡ key = sym c.of.ensures in
    let heap : c.args.heap.now ≡ key.memory = sym c.requires ∙ ap (λ (h : Regioning). h.memory) is_key in
    let found : find key.memory key.memory.special ≡ Some special =
    subst (λ (m : Memory). find m m.special ≡ Some special) heap c.special-special.ensures.special in
    let start : special ≡ start_of key.memory = sym (ap (λ (o : Option ℕ). unwrap_or o 0) found) in
    let count : c.len-objects.result ≡ object_count key.memory = c.len-objects.ensures.objects ∙ ap object_count heap in
    let regions : c.count.result ≡ region_count key.cut key.memory =
    c.count.ensures.count ∙ ap (λ (h : Regioning). region_count h.cut h.memory) is_key in
    let region : c.region.result ≡ region_at key.cut key.memory (start_of key.memory) =
    c.region.ensures.region ∙ (λ k. region_at (is_key k).cut (is_key k).memory (start k)) in
    let long : c.from.result ≡ length (chunk_words key.memory (start_of key.memory)) =
    c.from.ensures ∙ c.chunk_length.ensures.length ∙ (λ k. length (chunk_words (heap k) (start k))) in
    let zeros = c.in_ok-words.ensures.items_if_clones_equal (λ word same. same) in
    IsKept-opening key c.args.weak c.args.workers c.deref.result.now (found ∙ ap Some start)
    (subst (λ n. 1 ≤ n) c.number-weight.ensures.number c.number-weight.ensures.some)
    (subst (λ n. n ≤ 64) c.number-weight.ensures.number c.number-weight.ensures.few)
    (HasFewWords-heap key c.args.weak c.args.workers
    (subst (λ (m : Memory). length (concat m.chunks) < 2 ^ 30) heap c.heap_bounds.ensures.words))
    (c.deref.ensures.value
    ∙ (λ k. set (set (zeros k) special 1) (c.len-objects.result + c.region.result) c.from.result)
    ∙ (λ k. set (set (replicate (count k + regions k) 0) (start k) 1) (count k + region k) (long k)))
