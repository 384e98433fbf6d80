-- The texts of labels, as lists of bytes.
use Rattle.std.specs.Prelude.{◌≡◌, ℕ, ◌==◌, ◌||◌, if◌then◌else◌, Bool, slice_index, List, [], ◌++◌, length, codes, option_map, unwrap_or}
use Rattle.std.specs.Fmt.{decimal}
use Rattle.sqz_object.specs.Chunk.{compact_index, fields, format}
use Rattle.sqz_image.specs.Objects.{Memory, chunk_words, address_of}
use Rattle.sqz_trace.specs.declared.weak.Weak.{Weak}
use Rattle.sqz_trace.specs.Strong.{class_of}
use Rattle.sqz_names.specs.declared.known.Known.{Known}
use Rattle.sqz_names.specs.declared.known.Known.TheVariants.{Nil, False, True, Smalltalk}
use Rattle.sqz_names.specs.declared.label.Label.{Label}
use Rattle.sqz_names.specs.declared.label.Label.TheVariants as label
use Rattle.sqz_names.specs.ByteTexts.{hex, name_of_class, quoted_text_of, text_of}
use Rattle.sqz_names.specs.Labels.{IsLabel}
use Rattle.sqz_names.specs.LabelOrder.{IsFirst}

-- the name of an object's class, and `compact K` with the compact index if it has none
abbrev pub shown_class_name : Memory → Weak → ℕ → List ℕ
shown_class_name memory weak object =
    unwrap_or (option_map (name_of_class memory weak) (class_of memory weak (chunk_words memory object)))
    (codes "compact " ++ decimal (compact_index (chunk_words memory object)))

-- the number of fields of an object in brackets, if all of them are indexed
abbrev pub extent : List ℕ → List ℕ
extent chunk = if format chunk == 2 then (codes "(" ++ decimal (length (fields chunk))) ++ codes ")" else []

-- ---- labels

abbrev pub known_name : Known → List ℕ
known_name Nil = codes "nil"
known_name False = codes "false"
known_name True = codes "true"
known_name Smalltalk = codes "Smalltalk"

-- the text of an object's label
abbrev pub label_text : Memory → Weak → ℕ → Label → List ℕ
label_text memory weak object label.SpecialObjects = codes "special objects array"
label_text memory weak object (label.Known known) = known_name known
label_text memory weak object label.Class = codes "class " ++ name_of_class memory weak object
label_text memory weak object label.Metaclass = name_of_class memory weak object
label_text memory weak object (label.Method class selector) = name_of_class memory weak class ++ (codes ">>" ++ text_of memory selector)
label_text memory weak object (label.Global key) = codes "Smalltalk at: #" ++ text_of memory key
label_text memory weak object (label.ClassVariable class key) =
    name_of_class memory weak class ++ (codes " class variable " ++ text_of memory key)
label_text memory weak object label.String = quoted_text_of memory object
label_text memory weak object label.Symbol = codes "#" ++ text_of memory object
label_text memory weak object label.Other = shown_class_name memory weak object ++ (codes " " ++ hex 8 (address_of memory object))

-- whether words begin as the label of a string or a symbol
abbrev pub begins_as_text : List ℕ → Bool
begins_as_text words = (slice_index words 0 == 39) || (slice_index words 0 == 35)

-- the text of a label next to the address of its object
abbrev pub short_text : Memory → Weak → ℕ → Label → List ℕ
short_text memory weak object label.Other = shown_class_name memory weak object ++ extent (chunk_words memory object)
short_text memory weak object label = label_text memory weak object label

-- the label of an object, the first that the structures of the image state, has this text
pub record IsLabelled (shown : Label → List ℕ) (memory : Memory) (weak : Weak) (object : ℕ) (text : List ℕ) : Type 0 where
  pub label : Label
  pub is_label : IsLabel memory weak object label
  pub is_first : IsFirst memory weak object label
  pub is : text ≡ shown label

abbrev pub HasLabel : Memory → Weak → ℕ → List ℕ → Type 0
HasLabel memory weak object text = ∥ IsLabelled (label_text memory weak object) memory weak object text ∥₁

-- the label that is printed next to the address of the object has this text
abbrev pub HasShortLabel : Memory → Weak → ℕ → List ℕ → Type 0
HasShortLabel memory weak object text = ∥ IsLabelled (short_text memory weak object) memory weak object text ∥₁

-- this is the text of each label that the object can have, and none of them is only the name of its
-- class and its address. A method can have several labels, by its classes and selectors, and so can
-- an association
abbrev pub HasOnlyLabel : Memory → Weak → ℕ → List ℕ → Type 0
HasOnlyLabel memory weak object text =
    (its : Label) → IsLabel memory weak object its → IsFirst memory weak object its
    → (its ≡ label.Other → ⊥) × (text ≡ label_text memory weak object its)
