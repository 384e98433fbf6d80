-- Sizes, and those of classes by their names.
use Rattle.std.specs.Prelude.{ℕ, List, [], ◌∷◌, Option, Some, None, bytes_eq, string_bytes, sum_by}
use Rattle.std.specs.List.{filter}
use Rattle.sqz_answers.specs.declared.named.NamedTotal.{NamedTotal}
use Rattle.sqz_answers.specs.declared.sizes.Size.{Size}

-- the size of nothing
abbrev pub no_size : Size
no_size = record { objects = 0; bytes = 0 }

-- what totals add up to, if there are any
abbrev pub size_of : List NamedTotal → Option Size
size_of [] = None
size_of (first ∷ others) = Some record {
  objects = sum_by (λ named. named.total.count) (first ∷ others);
  bytes = sum_by (λ named. named.total.bytes) (first ∷ others);
}

-- what the totals with a name add up to, if there are any
abbrev pub size_by_name : List ℕ → List NamedTotal → Option Size
size_by_name name totals = size_of (filter (λ named. bytes_eq name (string_bytes named.name)) totals)
