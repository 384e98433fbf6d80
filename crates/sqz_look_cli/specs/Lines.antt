-- The word that stands for lines of standard input.
use Rattle.std.specs.Prelude.{Bool, List, bytes_eq, codes}
use Rattle.std.specs.List.{list_any}
use Rattle.clap.specs.Words.{Text}

-- a word is `-`
abbrev pub has_lines : List Text → Bool
has_lines words = list_any (λ word. bytes_eq word (codes "-")) words
