-- Class histograms with their sums.
use Rattle.std.specs.Prelude.{◌≡◌, Bool, List, length}
use Rattle.sqz_image.specs.Objects.{Memory, object_count}
use Rattle.sqz_trace.specs.declared.weak.Weak.{Weak}
use Rattle.sqz_trace.specs.Dead.{IsComplement, bytes_in}
use Rattle.sqz_trace.specs.Live.{live}
use Rattle.sqz_histogram.specs.Histogram.{IsHistogram}
use Rattle.sqz_answers.specs.declared.histograms.Histogram.{Histogram}

-- the class histogram of the marked objects, with their number and their bytes
pub record IsHistogramOf (memory : Memory) (weak : Weak) (marks : List Bool) (histogram : Histogram) : Type 0 where
  pub totals : IsHistogram memory weak marks histogram.totals.items
  pub objects : histogram.objects ≡ length (live memory marks)
  pub bytes : histogram.bytes ≡ bytes_in (live memory marks)

-- that of the objects that are not marked
pub record IsDeadHistogramOf (memory : Memory) (weak : Weak) (marks : List Bool) (histogram : Histogram) : Type 0 where
  pub others : List Bool
  pub complement : IsComplement (object_count memory) marks others
  pub are : IsHistogramOf memory weak others histogram
