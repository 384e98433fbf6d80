use Rattle.std.proofs.Common.{◌≡◌, ℕ, ◌+◌, ◌-◌, ◌<◌, ◌≤◌, ◌==◌, Bool, true, false, ◌&&◌, List, length, take, drop, slice_index}
use Rattle.std.proofs.Common.{sym, ap, ◌∙◌, arith}
use Rattle.std.specs.List.{list_all}
use Rattle.std.proofs.lemmas.Bool.{ne_eqb, eq-eqb}
use Rattle.std.proofs.lemmas.List.{get_or-take, get_or-drop, length-take, length-drop}
use Rattle.std.proofs.lemmas.List.Folds.{list_all_at, list_all_more}
use Rattle.sqz_object.specs.Chunk.{header_type}
use Rattle.sqz_object.proofs.chunk.is_of_one_type.Goals as goal

module _ (words : List ℕ) (start end k : ℕ) (from : start ≤ k) (below : k < end) (inside : end ≤ length words) where
  abbrev test : ℕ → Bool
  test word = header_type word == header_type (slice_index words start)

  -- word k, among the words from the start on
  in_rest : slice_index (drop start words) (k - start) ≡ slice_index words k
  in_rest =
      let same : start + (k - start) ≡ k = omega arith in
      get_or-drop start words (k - start) 0 ∙ ap (λ (n : ℕ). slice_index words n) same

  -- a word of another type
  other_type : test (slice_index words k) ≡ false → list_all test (take (end - start) (drop start words)) ≡ false
  other_type other =
      let part = take (end - start) (drop start words) in
      let same = get_or-take (end - start) (drop start words) (k - start) 0 (omega arith) ∙ in_rest in
      list_all_at test part (k - start) 0
      (omega (arith, length-take (end - start) (drop start words), length-drop start words))
      (ap test same ∙ other)

  -- one more word of the same type
  same_type : test (slice_index words k) ≡ true → list_all test (take (k - start) (drop start words)) ≡ true
      → list_all test (take (k + 1 - start) (drop start words)) ≡ true
  same_type same all =
      let more : k + 1 - start ≡ k - start + 1 = omega arith in
      ap (λ (n : ℕ). list_all test (take n (drop start words))) more
      ∙ list_all_more test (drop start words) (k - start) 0 (omega (arith, length-drop start words))
      ∙ ap (λ (first : Bool). first && test (slice_index (drop start words) (k - start))) all
      ∙ ap test in_rest
      ∙ same

pub returns-then-word-first : goal.returns-then-word-first
returns-then-word-first g c =
    sym (other_type (g.W.WordList.words c.args.words.now) c.args.start c.args.end c.loop-k.k (omega arith) (omega arith)
    c.requires.inside (rw (sym c.word.ensures, sym c.word-first.ensures) (ne_eqb _ _ c.if-word-first.true)))

pub loop-k-preserved : goal.loop-k-preserved
loop-k-preserved g c =
    same_type (g.W.WordList.words c.args.words.now) c.args.start c.args.end c.loop-k.k (omega arith) (omega arith)
    c.requires.inside (rw (sym c.word.ensures, sym c.word-first.ensures) (eq-eqb _ _ c.if-word-first.false)) c.loop-k.invariant
