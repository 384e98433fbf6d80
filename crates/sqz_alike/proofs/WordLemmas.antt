-- Lists of words that are the same, or the same bytes.
-- Serves `words`, and the laws of `sqz_changes`.
use Rattle.std.proofs.Common.{◌≡◌, ◌↔◌, ◌<◌, ℕ, zero, suc, Bool, true, false, ◌&&◌, List, [], ◌∷◌, length, map, get_or}
use Rattle.std.proofs.Common.{refl, sym, ◌∙◌, arith}
use Rattle.std.specs.Cmp.Lexicographic.{bytes_decides, pointwise}
use Rattle.std.proofs.lemmas.Bool.{and_parts}
use Rattle.sqz_object.specs.declared.layout.Layout.{Layout}
use Rattle.sqz_object.specs.declared.layout.Layout.TheVariants.{Fields, Weak, Context, Words, Bytes, Method}
use Rattle.sqz_object.specs.declared.order.Order.{Order}
use Rattle.sqz_object.specs.Bytes.{bytes_of}
use Rattle.sqz_alike.specs.Alike.{UntracedMatch}
use Rattle.sqz_alike.specs.Untraced.{same_bytes, same_untraced, same_word}

both-true : (one other : Bool) → one ≡ true → other ≡ true → (one && other) ≡ true
both-true true other e f = f
both-true false other e f = e

-- ---- lists that are the same at each index

module _ {A B : Type 0} (E : A → B → Bool) where
  first-false : (one other : Bool) → one ≡ false → (one && other) ≡ false
  first-false true other e = absurd cc
  first-false false other e = refl

  second-false : (one other : Bool) → other ≡ false → (one && other) ≡ false
  second-false true other e = e
  second-false false other e = refl

  -- lists that are as long, and the same at each index
  pub pointwise-all : (xs : List A) (ys : List B) (d : A) (e : B) → length xs ≡ length ys
      → ((k : ℕ) → k < length xs → E (get_or xs k d) (get_or ys k e) ≡ true) → pointwise E xs ys ≡ true
  pointwise-all [] [] d e long same = refl
  pointwise-all [] (y ∷ ys) d e long same = absurd (omega arith)
  pointwise-all (x ∷ xs) [] d e long same = absurd (omega arith)
  pointwise-all (x ∷ xs) (y ∷ ys) d e long same =
      both-true (E x y) (pointwise E xs ys) (same zero (omega arith))
      (pointwise-all xs ys d e (omega arith) (λ k lt. same (suc k) (omega arith)))

  -- lists that are not the same at an index
  pub pointwise-not : (xs : List A) (ys : List B) (d : A) (e : B) (k : ℕ) → k < length xs → k < length ys
      → E (get_or xs k d) (get_or ys k e) ≡ false → pointwise E xs ys ≡ false
  pointwise-not [] ys d e k lt lt2 miss = absurd (omega arith)
  pointwise-not (x ∷ xs) [] d e k lt lt2 miss = absurd (omega arith)
  pointwise-not (x ∷ xs) (y ∷ ys) d e zero lt lt2 miss = first-false (E x y) (pointwise E xs ys) miss
  pointwise-not (x ∷ xs) (y ∷ ys) d e (suc k) lt lt2 miss =
      second-false (E x y) (pointwise E xs ys) (pointwise-not xs ys d e k (omega arith) (omega arith) miss)

-- ---- the same bytes

first-is : (here later : Bool) (x y : List ℕ) (xs ys : List (List ℕ)) → ((here ≡ true) ↔ (x ≡ y)) → ((later ≡ true) ↔ (xs ≡ ys))
    → ((here && later) ≡ true) ↔ (x ∷ xs ≡ y ∷ ys)
first-is here later x y xs ys first rest = (to, from)
  where
    to : (here && later) ≡ true → x ∷ xs ≡ y ∷ ys
    to e =
        let parts = and_parts here later e in
        let same : x ≡ y = first.0 parts.0 in
        let others : xs ≡ ys = rest.0 parts.1 in
        cc

    from : x ∷ xs ≡ y ∷ ys → (here && later) ≡ true
    from e = both-true here later (first.1 cc) (rest.1 cc)

pub same_bytes-is : (order other_order : Order) (words others : List ℕ)
    → (same_bytes order other_order words others ≡ true) ↔ (map (bytes_of order) words ≡ map (bytes_of other_order) others)
same_bytes-is order other_order [] [] = (λ e. refl, λ e. refl)
same_bytes-is order other_order [] (other ∷ others) = (λ e. absurd cc, λ e. absurd cc)
same_bytes-is order other_order (word ∷ words) [] = (λ e. absurd cc, λ e. absurd cc)
same_bytes-is order other_order (word ∷ words) (other ∷ others) =
    first-is (same_word order other_order word other) (same_bytes order other_order words others)
    (bytes_of order word) (bytes_of other_order other) (map (bytes_of order) words) (map (bytes_of other_order) others)
    (bytes_decides (bytes_of order word) (bytes_of other_order other)) (same_bytes-is order other_order words others)

pub same_untraced-is : (kind : Layout) (order other_order : Order) (words others : List ℕ)
    → (same_untraced kind order other_order words others ≡ true) ↔ UntracedMatch kind order other_order words others
same_untraced-is Fields order other_order words others = bytes_decides words others
same_untraced-is Weak order other_order words others = bytes_decides words others
same_untraced-is Context order other_order words others = bytes_decides words others
same_untraced-is Words order other_order words others = bytes_decides words others
same_untraced-is (Bytes unused) order other_order words others = same_bytes-is order other_order words others
same_untraced-is Method order other_order words others = same_bytes-is order other_order words others

pub untraced-matches : (found : Bool) (kind : Layout) (order other_order : Order) (words others : List ℕ) → found ≡ same_untraced kind order other_order words others
    → (found ≡ true) ↔ UntracedMatch kind order other_order words others
untraced-matches found kind order other_order words others e =
    let is = same_untraced-is kind order other_order words others in
    (λ yes. is.0 (sym e ∙ yes), λ match. e ∙ is.1 match)
