-- The sizes of the live instances of classes, by the names of the classes.
use Rattle.std.specs.Prelude.{◌≡◌, ℕ, Bool, List, String, map}
use Rattle.std.specs.BTreeMap.{BTreeMap, get_by_text}
use Rattle.std.specs.declared.alloc.Global.{Global}
use Rattle.sqz_image.specs.Objects.{Memory}
use Rattle.sqz_trace.specs.declared.weak.Weak.{Weak}
use Rattle.sqz_histogram.specs.Histogram.{IsHistogram}
use Rattle.sqz_answers.specs.declared.named.NamedTotal.{NamedTotal}
use Rattle.sqz_answers.specs.declared.sizes.Size.{Size}
use Rattle.sqz_answers.specs.Sizes.{size_by_name}

-- what the totals of the class histogram of the marked objects add up to by name, if each class is
-- given some name
pub record AreClassSizes (memory : Memory) (weak : Weak) (marks : List Bool) (sizes : BTreeMap (String Global) Size) : Type 0 where
  pub named : List NamedTotal
  pub histogram : IsHistogram memory weak marks (map (λ one. one.total) named)
  pub by_name : (name : List ℕ) → get_by_text sizes name ≡ size_by_name name named
