-- Objects that have no bytes.
-- Serves `texts::text_of`.
use Rattle.std.proofs.Common.{◌≡◌, ◌^◌, ◌-◌, ℕ, Bool, true, false, cond, List, Option, Some, None, refl}
use Rattle.std.specs.Prelude.{option_and_then}
use Rattle.sqz_object.specs.declared.layout.Layout.{Layout}
use Rattle.sqz_object.specs.declared.layout.Layout.TheVariants.{Fields, Weak as WeakFields, Context, Words, Bytes, Method}
use Rattle.sqz_object.specs.declared.order.Order.{Order}
use Rattle.sqz_object.specs.Chunk.{fields}
use Rattle.sqz_object.specs.Layout.{layout}
use Rattle.sqz_image.specs.Objects.{Memory, chunk_words}
use Rattle.sqz_trace.specs.declared.weak.Weak.{Weak}
use Rattle.sqz_trace.specs.Strong.{class_of}
use Rattle.sqz_histogram.specs.Bytes.{first_bytes_by}
use Rattle.sqz_histogram.specs.Names.{class_name}
use Rattle.sqz_facts.specs.Texts.{is_text_class, text_in, text_of}

-- an object with another layout has no bytes
first_bytes_by-none : (order : Order) (most : ℕ) (fields : List ℕ) (layout : Layout) → ((unused : ℕ) → layout ≡ Bytes unused → ⊥)
    → first_bytes_by order most layout fields ≡ None
first_bytes_by-none order most fields Fields other = refl
first_bytes_by-none order most fields WeakFields other = refl
first_bytes_by-none order most fields Context other = refl
first_bytes_by-none order most fields Words other = refl
first_bytes_by-none order most fields (Bytes unused) other = absurd (other unused refl)
first_bytes_by-none order most fields Method other = refl

if_none : {X : Type 0} (test : Bool) (x : Option X) → x ≡ None → cond test x None ≡ None
if_none true x none = none
if_none false x none = refl

module _ (memory : Memory) (weak : Weak) (object : ℕ)
    (other : (unused : ℕ) → layout (chunk_words memory object) ≡ Bytes unused → ⊥) where
  text_in-none : (class : Option ℕ) → option_and_then (text_in memory weak object) class ≡ None
  text_in-none None = refl
  text_in-none (Some class) =
      if_none (is_text_class (class_name memory weak class)) _
      (first_bytes_by-none memory.order (2 ^ 64 - 1) (fields (chunk_words memory object)) (layout (chunk_words memory object)) other)

  -- nor a text
  pub text_of-none : text_of memory weak object ≡ None
  text_of-none = text_in-none (class_of memory weak (chunk_words memory object))
