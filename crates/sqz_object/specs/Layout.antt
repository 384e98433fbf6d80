-- The layout of an object's fields, by the format and compact class index of its base header.
use Rattle.std.specs.Prelude.{ℕ, Bool, true, false, ◌==◌, ◌&&◌, ◌||◌, if◌then◌else◌, List, [], ◌∷◌, slice_index_or}
use Rattle.sqz_object.specs.declared.base.Base.{Base}
use Rattle.sqz_object.specs.declared.layout.Layout.{Layout}
use Rattle.sqz_object.specs.declared.layout.Layout.TheVariants.{Fields, Weak, Context, Words, Bytes, Method}
use Rattle.sqz_object.specs.Value.{base_of}
use Rattle.sqz_object.specs.Chunk.{base_word}

-- the layouts of formats 0 to 11, except contexts; each format above is a compiled method's
abbrev pub layouts : List Layout
layouts =
    Fields ∷ Fields ∷ Fields ∷ Fields ∷ Weak ∷ Words ∷ Words ∷ Words ∷ Bytes 0 ∷ Bytes 1 ∷ Bytes 2 ∷ Bytes 3 ∷ []

-- the two context classes have the compact class indexes 13 and 14
abbrev pub is_context_index : ℕ → Bool
is_context_index index = index == 13 || index == 14

-- format 3 is a context if the compact class index is 13 or 14
abbrev pub layout_by : ℕ → ℕ → Layout
layout_by format compact =
    if format == 3 && is_context_index compact then Context else slice_index_or layouts format Method

abbrev pub layout_of : Base → Layout
layout_of base = layout_by base.format base.compact

-- the layout of the object with these words
abbrev pub layout : List ℕ → Layout
layout chunk = layout_of (base_of (base_word chunk))

-- whether the layout is that of a weak object
abbrev pub is_weak_layout : Layout → Bool
is_weak_layout Fields = false
is_weak_layout Weak = true
is_weak_layout Context = false
is_weak_layout Words = false
is_weak_layout (Bytes unused) = false
is_weak_layout Method = false
