-- What the layout of an object says of its bytes and of its strong fields.
-- Serves `bytes::spells` and `ClassLemmas`.
use Rattle.std.proofs.Common.{◌≡◌, ℕ, ◌+◌, ◌≤◌, Bool, true, false, cond, List, length, take, Option, Some, refl, sym, ap, ◌∙◌, arith}
use Rattle.std.proofs.lemmas.List.{length-take, take_all}
use Rattle.std.proofs.lemmas.Option.{none-some, same_Some}
use Rattle.sqz_object.specs.declared.layout.Layout.{Layout}
use Rattle.sqz_object.specs.declared.layout.Layout.TheVariants.{Fields, Weak, Context, Words, Bytes, Method}
use Rattle.sqz_object.specs.Chunk.{fields}
use Rattle.sqz_object.specs.Layout.{layout, is_weak_layout}
use Rattle.sqz_image.specs.Objects.{Memory, chunk_words}
use Rattle.sqz_trace.specs.Slots.{traced_of}
use Rattle.sqz_trace.specs.Strong.{unless_above}
use Rattle.sqz_trace.proofs.StrongLemmas.{unless_above-le}
use Rattle.sqz_histogram.specs.Bytes.{bytes_in, first_bytes, first_bytes_by}
use Rattle.sqz_names.specs.Structures.{HasText}

-- strong fields are traced ones
pub strong-le : (test : Bool) (laid : Layout) (fields : List ℕ) (stated : Option ℕ)
    → (test ≡ true → is_weak_layout laid ≡ true)
    → cond test (unless_above (length fields) stated) (traced_of laid fields) ≤ traced_of laid fields
strong-le false laid fields stated weak = omega arith
strong-le true Fields fields stated weak = unless_above-le (length fields) stated
strong-le true Weak fields stated weak = unless_above-le (length fields) stated
strong-le true Context fields stated weak = let e : false ≡ true = weak refl in absurd cc
strong-le true Words fields stated weak = let e : false ≡ true = weak refl in absurd cc
strong-le true (Bytes unused) fields stated weak = let e : false ≡ true = weak refl in absurd cc
strong-le true Method fields stated weak = let e : false ≡ true = weak refl in absurd cc

-- a front that is shorter than asked for is the whole list
front_all : (xs text : List ℕ) → take (length text + 1) xs ≡ text → xs ≡ text
front_all xs text is =
    let short : length xs ≤ length text + 1 = omega (arith, length-take (length text + 1) xs, ap length is) in
    sym (take_all (length text + 1) xs short) ∙ is

-- an object whose first bytes, one more than a text has, are the text
pub HasText-first : (memory : Memory) (object : ℕ) (text : List ℕ)
    → first_bytes memory.order (length text + 1) (chunk_words memory object) ≡ Some text → HasText memory text object
HasText-first memory object text = by_layout (layout (chunk_words memory object)) refl
  where
    by_layout : (laid : Layout) → layout (chunk_words memory object) ≡ laid
        → first_bytes_by memory.order (length text + 1) laid (fields (chunk_words memory object)) ≡ Some text
        → HasText memory text object
    by_layout Fields is found = absurd (none-some text found)
    by_layout Weak is found = absurd (none-some text found)
    by_layout Context is found = absurd (none-some text found)
    by_layout Words is found = absurd (none-some text found)
    by_layout (Bytes unused) is found = record {
      unused = unused;
      is_text = is;
      bytes = front_all (bytes_in memory.order unused (fields (chunk_words memory object))) text (same_Some _ _ found);
    }
    by_layout Method is found = absurd (none-some text found)

-- and the other way round
pub first_bytes-HasText : (memory : Memory) (object : ℕ) (text : List ℕ)
    → HasText memory text object → first_bytes memory.order (length text + 1) (chunk_words memory object) ≡ Some text
first_bytes-HasText memory object text has =
    ap (λ (laid : Layout). first_bytes_by memory.order (length text + 1) laid (fields (chunk_words memory object))) has.is_text
    ∙ ap (λ (bytes : List ℕ). Some (take (length text + 1) bytes)) has.bytes
    ∙ ap (λ (bytes : List ℕ). Some bytes) (take_all (length text + 1) text (omega arith))
