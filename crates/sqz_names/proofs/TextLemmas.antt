-- Texts byte by byte, and the whole names of classes.
-- Serves `escape`, `class_names` and `byte_texts`.
use Rattle.std.proofs.Common.{◌≡◌, ◌∙◌, ℕ, ◌+◌, ◌<◌, ◌≤◌, Bool, true, false, List, [], ◌∷◌, ◌++◌, length, take, map, get_or, refl, sym, ap, arith, inl, inr}
use Rattle.std.specs.Prelude.{nat_le, ◌==◌, ◌&&◌, if◌then◌else◌, codes, Option, Some, option_map, unwrap_or}
use Rattle.std.specs.List.{concat}
use Rattle.std.specs.Str.{bytes_eq}
use Rattle.std.proofs.Math.Seq.{take-nil}
use Rattle.std.proofs.lemmas.Bool.{cases_lt, false_from_ne_true}
use Rattle.std.proofs.lemmas.List.{append-nil, length-append, length-take, map-append, take_all, take_more}
use Rattle.std.proofs.lemmas.List.Folds.{concat-append}
use Rattle.std.proofs.lemmas.Slice.Eq.{bytes_eq-Decides}
use Rattle.sqz_object.specs.declared.layout.Layout.{Layout}
use Rattle.sqz_object.specs.declared.layout.Layout.TheVariants.{Fields, Weak, Context, Words, Bytes, Method}
use Rattle.sqz_object.specs.declared.order.Order.{Order}
use Rattle.sqz_object.specs.Chunk.{fields}
use Rattle.sqz_object.specs.Layout.{layout}
use Rattle.sqz_image.specs.Objects.{Memory, chunk_words}
use Rattle.sqz_trace.specs.declared.weak.Weak.{Weak as Policy}
use Rattle.sqz_histogram.specs.Bytes.{first_bytes_by}
use Rattle.sqz_histogram.specs.declared.names.ClassName.{ClassName}
use Rattle.sqz_histogram.specs.declared.names.ClassName.TheVariants.{Own, OfInstance}
use Rattle.sqz_histogram.specs.Names.{name_text, naming}
use Rattle.sqz_names.specs.ByteTexts.{bytes_by, escaped, escaped_byte, hex, whole_front, whole_name, whole_text}

-- the texts of the first bytes and one more
pub concat_map-more : (f : ℕ → List ℕ) (bytes : List ℕ) (i d : ℕ) → i < length bytes
    → concat (map f (take (i + 1) bytes)) ≡ concat (map f (take i bytes)) ++ f (get_or bytes i d)
concat_map-more f bytes i d inside =
    let last : List ℕ = get_or bytes i d ∷ [] in
    ap (λ (l : List ℕ). concat (map f l)) (take_more bytes i d inside) ∙ ap concat (map-append f (take i bytes) last)
    ∙ concat-append (map f (take i bytes)) (map f last)
    ∙ ap (λ (l : List ℕ). concat (map f (take i bytes)) ++ l) (append-nil (f (get_or bytes i d)))

-- ---- whole texts

-- a byte as text is not empty
escaped_by : (byte : ℕ) (is_backslash is_shown : Bool)
    → 1 ≤ length (if is_backslash then 92 ∷ 92 ∷ [] else (if is_shown then byte ∷ [] else 92 ∷ 120 ∷ hex 2 byte))
escaped_by byte true is_shown = omega arith
escaped_by byte false true = omega arith
escaped_by byte false false = omega arith

-- text is not shorter than its bytes
length-escaped : (bytes : List ℕ) → length bytes ≤ length (escaped bytes)
length-escaped [] = omega arith
length-escaped (byte ∷ bytes) =
    let one : 1 ≤ length (escaped_byte byte) = escaped_by byte (byte == 92) (nat_le 32 byte && nat_le byte 126) in
    let more : length bytes ≤ length (escaped bytes) = length-escaped bytes in
    omega (arith, one, more, length-append (escaped_byte byte) (escaped bytes))

-- the first bytes of an object are those of its bytes
take-bytes_by : (order : Order) (most : ℕ) (laid : Layout) (fields : List ℕ)
    → unwrap_or (first_bytes_by order most laid fields) [] ≡ take most (bytes_by order laid fields)
take-bytes_by order most Fields fields = sym (take-nil most)
take-bytes_by order most Weak fields = sym (take-nil most)
take-bytes_by order most Context fields = sym (take-nil most)
take-bytes_by order most Words fields = sym (take-nil most)
take-bytes_by order most (Bytes unused) fields = refl
take-bytes_by order most Method fields = sym (take-nil most)

-- a longer text is another one
bytes_eq-longer : (xs ys : List ℕ) → length ys < length xs → bytes_eq xs ys ≡ false
bytes_eq-longer xs ys longer =
    false_from_ne_true (bytes_eq xs ys)
    (λ is. let same : xs ≡ ys = (bytes_eq-Decides xs ys).0 is in absurd (omega (arith, longer, ap length same)))

-- bytes spell a text exactly if the first ones do, one more than the text has
bytes_eq-front : (bytes after text : List ℕ)
    → bytes_eq (escaped (take (length text + 1) bytes) ++ after) text ≡ bytes_eq (escaped bytes ++ after) text
bytes_eq-front bytes after text =
    let front : List ℕ = take (length text + 1) bytes in
    elim (cases_lt (length text + 1) (length bytes)) [
      | inl longer ↦
          bytes_eq-longer (escaped front ++ after) text
          (omega (arith, longer, length-take (length text + 1) bytes, length-escaped front, length-append (escaped front) after))
          ∙ sym (bytes_eq-longer (escaped bytes ++ after) text
          (omega (arith, longer, length-escaped bytes, length-append (escaped bytes) after)))
      | inr short ↦
          ap (λ (it : List ℕ). bytes_eq (escaped it ++ after) text) (take_all (length text + 1) bytes short)
    ]

module _ (memory : Memory) (weak : Policy) (class name : ℕ) (text : List ℕ) where
  whole_front-after : (after : List ℕ) → bytes_eq (whole_front memory (length text + 1) name ++ after) text
      ≡ bytes_eq (whole_text memory name ++ after) text
  whole_front-after after =
      let chunk = chunk_words memory name in
      ap (λ (it : List ℕ). bytes_eq (escaped it ++ after) text)
      (take-bytes_by memory.order (length text + 1) (layout chunk) (fields chunk))
      ∙ bytes_eq-front (bytes_by memory.order (layout chunk) (fields chunk)) after text

  by_naming : (named : ClassName) → naming memory weak class ≡ Some named
      → bytes_eq (name_text (whole_text memory) named) text ≡ bytes_eq (whole_name memory weak class) text
  by_naming named is =
      ap (λ (it : Option ClassName). bytes_eq (unwrap_or (option_map (name_text (whole_text memory)) it) (codes "?")) text) (sym is)

  -- a class has this text as its whole name
  pub whole_name-own : naming memory weak class ≡ Some (Own name)
      → bytes_eq (whole_front memory (length text + 1) name) text ≡ bytes_eq (whole_name memory weak class) text
  whole_name-own is =
      ap (λ (it : List ℕ). bytes_eq it text) (sym (append-nil (whole_front memory (length text + 1) name)))
      ∙ whole_front-after [] ∙ ap (λ (it : List ℕ). bytes_eq it text) (append-nil (whole_text memory name))
      ∙ by_naming (Own name) is

  -- and so has a metaclass
  pub whole_name-instance : naming memory weak class ≡ Some (OfInstance name)
      → bytes_eq (whole_front memory (length text + 1) name ++ codes " class") text ≡ bytes_eq (whole_name memory weak class) text
  whole_name-instance is = whole_front-after (codes " class") ∙ by_naming (OfInstance name) is
