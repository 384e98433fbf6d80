-- Whether the untraced words of two objects are the same, by the byte orders of their files.
use Rattle.std.specs.Prelude.{ℕ, Bool, nat_eq, List}
use Rattle.std.specs.Cmp.Lexicographic.{pointwise}
use Rattle.sqz_object.specs.declared.order.Order.{Order}
use Rattle.sqz_object.specs.declared.layout.Layout.{Layout}
use Rattle.sqz_object.specs.declared.layout.Layout.TheVariants.{Fields, Weak, Context, Words, Bytes, Method}
use Rattle.sqz_object.specs.Bytes.{bytes_of}

-- the same words
abbrev pub same_words : List ℕ → List ℕ → Bool
same_words words others = pointwise nat_eq words others

-- two words with the same bytes
abbrev pub same_word : Order → Order → ℕ → ℕ → Bool
same_word order other_order word other = pointwise nat_eq (bytes_of order word) (bytes_of other_order other)

-- the same bytes, word by word
abbrev pub same_bytes : Order → Order → List ℕ → List ℕ → Bool
same_bytes order other_order words others = pointwise (same_word order other_order) words others

-- the words after the traced fields: byte objects and methods are compared by their bytes
abbrev pub same_untraced : Layout → Order → Order → List ℕ → List ℕ → Bool
same_untraced Fields order other_order words others = same_words words others
same_untraced Weak order other_order words others = same_words words others
same_untraced Context order other_order words others = same_words words others
same_untraced Words order other_order words others = same_words words others
same_untraced (Bytes unused) order other_order words others = same_bytes order other_order words others
same_untraced Method order other_order words others = same_bytes order other_order words others
