-- The strings and symbols that match a regular expression.
use Rattle.std.specs.Prelude.{◌<◌, ◌≡◌, ◌&&◌, ℕ, Bool, true, false, if◌then◌else◌, List, Option, Some, None, is_some}
use Rattle.std.specs.List.{filter_map, range_with_len}
use Rattle.regex.specs.Patterns.{Re, find}
use Rattle.sqz_image.specs.Objects.{Memory, object_count}
use Rattle.sqz_trace.specs.declared.weak.Weak.{Weak}
use Rattle.sqz_trace.specs.Graph.{is_marked}
use Rattle.sqz_facts.specs.Texts.{text_of}

-- whether a text has a match
abbrev pub has_match : Re → Option (List ℕ) → Bool
has_match pattern None = false
has_match pattern (Some text) = is_some (find pattern text 0)

-- whether an object is a marked string or symbol that has a match
abbrev pub is_match : Memory → Weak → List Bool → Re → ℕ → Bool
is_match memory weak marks pattern object = is_marked marks object && has_match pattern (text_of memory weak object)

-- an object, if it is one
abbrev pub if_match : Memory → Weak → List Bool → Re → ℕ → Option ℕ
if_match memory weak marks pattern object = if is_match memory weak marks pattern object then Some object else None

-- the marked strings and symbols that have a match, by index
abbrev pub matches : Memory → Weak → List Bool → Re → List ℕ
matches memory weak marks pattern = filter_map (if_match memory weak marks pattern) (range_with_len 0 (object_count memory))

-- an object is a string or a symbol
pub record IsText (memory : Memory) (weak : Weak) (object : ℕ) : Type 0 where
  pub inside : object < object_count memory
  pub has_text : is_some (text_of memory weak object) ≡ true
