-- Where two objects do not differ, they match.
-- Serves `LawLemmas`.
use Rattle.std.proofs.Common.{◌≡◌, ℕ, Bool, true, false, not, ◌&&◌, ◌||◌, cond, eqb, List, length}
use Rattle.std.proofs.Common.{Option, Some, None, refl, ap}
use Rattle.std.specs.Prelude.{nat_eq}
use Rattle.std.specs.Option.{option_eq}
use Rattle.std.proofs.lemmas.Bool.{and_parts, eqb-true}
use Rattle.sqz_object.specs.declared.chunk.Kind.{Kind}
use Rattle.sqz_object.specs.declared.chunk.Kind.TheVariants.{Three, Two, Free, Short}
use Rattle.sqz_object.specs.declared.layout.Layout.{Layout}
use Rattle.sqz_object.specs.declared.layout.Layout.TheVariants.{Fields, Weak, Context, Words, Bytes, Method}
use Rattle.sqz_object.specs.declared.order.Order.{Order}
use Rattle.sqz_object.specs.Chunk.{chunk_kind}
use Rattle.sqz_object.specs.Layout.{layout}
use Rattle.sqz_names.specs.Structures.{is_method_layout}
use Rattle.sqz_trace.specs.Slots.{traced}
use Rattle.sqz_alike.specs.declared.matching.Pair.{Pair}
use Rattle.sqz_alike.specs.Alike.{HeadersMatch, SlotsMatch, UntracedMatch, WordsMatch, untraced}
use Rattle.sqz_alike.specs.Untraced.{same_bytes, same_untraced}
use Rattle.sqz_alike.proofs.WordLemmas.{same_bytes-is, same_untraced-is}
use Rattle.sqz_changes.specs.Compared.{is_pair}
use Rattle.sqz_changes.specs.Differences.{slots_differ}
use Rattle.sqz_changes.specs.Headers.{are_methods, class_differs, compact, format, hash, hash_differs, header_differs, same_kind, shape_differs}
use Rattle.sqz_changes.specs.Words.{bytecodes_differ, trailer_differs, words_differ}
use Rattle.sqz_changes.proofs.PairLemmas.{pair-in}

neither : (one other : Bool) → (one || other) ≡ false → (one ≡ false) × (other ≡ false)
neither true other e = absurd cc
neither false other e = (refl, e)

not-false : (b : Bool) → not b ≡ false → b ≡ true
not-false true e = refl
not-false false e = absurd cc

same_number : (one other : ℕ) → not (eqb one other) ≡ false → one ≡ other
same_number one other e = eqb-true one other (not-false (eqb one other) e)

kind-same : (one other : Kind) → same_kind one other ≡ true → one ≡ other
kind-same Three Three e = refl
kind-same Three Two e = absurd cc
kind-same Three Free e = absurd cc
kind-same Three Short e = absurd cc
kind-same Two Three e = absurd cc
kind-same Two Two e = refl
kind-same Two Free e = absurd cc
kind-same Two Short e = absurd cc
kind-same Free Three e = absurd cc
kind-same Free Two e = absurd cc
kind-same Free Free e = refl
kind-same Free Short e = absurd cc
kind-same Short Three e = absurd cc
kind-same Short Two e = absurd cc
kind-same Short Free e = absurd cc
kind-same Short Short e = refl

option-same : (one other : Option ℕ) → option_eq nat_eq one other ≡ true → one ≡ other
option-same (Some one) (Some other) e = ap Some (eqb-true one other e)
option-same (Some one) None e = absurd cc
option-same None (Some other) e = absurd cc
option-same None None e = refl

-- ---- words

method-untraced : (kind : Layout) (order other_order : Order) (words others : List ℕ) → is_method_layout kind ≡ true
    → same_bytes order other_order words others ≡ true → UntracedMatch kind order other_order words others
method-untraced Method order other_order words others is e = (same_bytes-is order other_order words others).0 e
method-untraced Fields order other_order words others is e = absurd cc
method-untraced Weak order other_order words others is e = absurd cc
method-untraced Context order other_order words others is e = absurd cc
method-untraced Words order other_order words others is e = absurd cc
method-untraced (Bytes unused) order other_order words others is e = absurd cc

module _ (order other_order : Order) (one other : List ℕ) where
  headers : class_differs one other ≡ false → shape_differs one other ≡ false → hash_differs one other ≡ false → HeadersMatch one other
  headers class shape hashes =
      let first = neither (not (eqb (compact one) (compact other))) (not (eqb (traced one) (traced other))) class in
      let kinds = neither (not (same_kind (chunk_kind one) (chunk_kind other)))
      (not (eqb (length one) (length other)) || not (eqb (format one) (format other))) shape in
      let sizes = neither (not (eqb (length one) (length other))) (not (eqb (format one) (format other))) kinds.1 in
      record {
        kind = kind-same (chunk_kind one) (chunk_kind other) (not-false (same_kind (chunk_kind one) (chunk_kind other)) kinds.0);
        size = same_number (length one) (length other) sizes.0;
        format = same_number (format one) (format other) sizes.1;
        compact = same_number (compact one) (compact other) first.0;
        hash = same_number (hash one) (hash other) hashes;
      }

  -- two objects that differ nowhere but in slots have the same words
  pub words-match : header_differs one other ≡ false → hash_differs one other ≡ false → words_differ order other_order one other ≡ false
      → trailer_differs order other_order one other ≡ false → WordsMatch order other_order one other
  words-match header hashes words trailer =
      let parts = neither (class_differs one other) (not (are_methods one other) && shape_differs one other) header in
      let first = neither (not (eqb (compact one) (compact other))) (not (eqb (traced one) (traced other))) parts.0 in
      let rest = by (are_methods one other) refl parts.1 words trailer in
      record {
        headers = headers parts.0 rest.0 hashes;
        traced = same_number (traced one) (traced other) first.1;
        untraced = rest.1;
      }
    where
      by : (b : Bool) → are_methods one other ≡ b → (not b && shape_differs one other) ≡ false
          → cond b (bytecodes_differ order other_order one other) (not (same_untraced (layout one) order other_order (untraced one) (untraced other))) ≡ false
          → (b && (shape_differs one other || not (same_bytes order other_order (untraced one) (untraced other)))) ≡ false
          → (shape_differs one other ≡ false) × UntracedMatch (layout one) order other_order (untraced one) (untraced other)
      by true is shape words trailer =
          let parts = neither (shape_differs one other) (not (same_bytes order other_order (untraced one) (untraced other))) trailer in
          let one_is = (and_parts (is_method_layout (layout one)) (is_method_layout (layout other)) is).0 in
          (parts.0, method-untraced (layout one) order other_order (untraced one) (untraced other) one_is (not-false _ parts.1))
      by false is shape words trailer =
          (shape, (same_untraced-is (layout one) order other_order (untraced one) (untraced other)).0 (not-false _ words))

-- two slots that do not differ match
pub slots-match : (pairs : List Pair) (old new word other : Option ℕ) → slots_differ pairs old new word other ≡ false → SlotsMatch pairs old new word other
slots-match pairs (Some old) (Some new) word other e = pair-in pairs old new (not-false (is_pair pairs old new) e)
slots-match pairs (Some old) None word other e = absurd cc
slots-match pairs None (Some new) word other e = absurd cc
slots-match pairs None None word other e = option-same word other (not-false (option_eq nat_eq word other) e)
