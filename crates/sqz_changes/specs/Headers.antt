-- How the headers of two objects differ.
use Rattle.std.specs.Prelude.{ℕ, Bool, true, false, not, ◌==◌, ◌&&◌, ◌||◌, List, length}
use Rattle.sqz_object.specs.declared.chunk.Kind.{Kind}
use Rattle.sqz_object.specs.declared.chunk.Kind.TheVariants.{Three, Two, Free, Short}
use Rattle.sqz_object.specs.Chunk.{base_word, chunk_kind}
use Rattle.sqz_object.specs.Layout.{layout}
use Rattle.sqz_object.specs.Value.{base_of}
use Rattle.sqz_trace.specs.Slots.{traced}
use Rattle.sqz_names.specs.Structures.{is_method_layout}

-- whether both objects are methods
abbrev pub are_methods : List ℕ → List ℕ → Bool
are_methods one other = is_method_layout (layout one) && is_method_layout (layout other)

abbrev pub same_kind : Kind → Kind → Bool
same_kind Three Three = true
same_kind Two Two = true
same_kind Free Free = true
same_kind Short Short = true
same_kind _ _ = false

abbrev pub compact : List ℕ → ℕ
compact chunk = (base_of (base_word chunk)).compact

abbrev pub format : List ℕ → ℕ
format chunk = (base_of (base_word chunk)).format

abbrev pub hash : List ℕ → ℕ
hash chunk = (base_of (base_word chunk)).hash

-- different compact class indexes, or numbers of traced fields
abbrev pub class_differs : List ℕ → List ℕ → Bool
class_differs one other = not (compact one == compact other) || not (traced one == traced other)

-- different kinds of header, sizes or formats
abbrev pub shape_differs : List ℕ → List ℕ → Bool
shape_differs one other =
    not (same_kind (chunk_kind one) (chunk_kind other))
    || (not (length one == length other) || not (format one == format other))

-- methods are compared by their compact class indexes and numbers of traced fields alone
abbrev pub header_differs : List ℕ → List ℕ → Bool
header_differs one other = class_differs one other || (not (are_methods one other) && shape_differs one other)

abbrev pub hash_differs : List ℕ → List ℕ → Bool
hash_differs one other = not (hash one == hash other)
