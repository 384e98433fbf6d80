-- Which word of a chunk is its class word.
use Rattle.std.specs.Prelude.{ℕ, ◌==◌, Bool, false}
use Rattle.sqz_object.specs.declared.chunk.Kind.{Kind}
use Rattle.sqz_object.specs.declared.chunk.Kind.TheVariants.{Three, Two, Free, Short}

-- whether the word with this index is the class word of a chunk of this kind
abbrev pub is_class_word : Kind → ℕ → Bool
is_class_word Three k = k == 1
is_class_word Two k = k == 0
is_class_word Free k = false
is_class_word Short k = false
