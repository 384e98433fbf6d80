-- Class histograms with what the objects of each group retain.
use Rattle.std.specs.Prelude.{◌≡◌, ℕ, Bool, List, map, length, slice_index, All}
use Rattle.std.specs.List.Sorted.{IsPermutation, IsSortedBy, IsStableBy}
use Rattle.std.specs.Ordering.{nat_cmp, is_lt}
use Rattle.sqz_image.specs.Objects.{Memory}
use Rattle.sqz_trace.specs.declared.weak.Weak.{Weak}
use Rattle.sqz_trace.specs.Dead.{bytes_in}
use Rattle.sqz_trace.specs.Live.{live}
use Rattle.sqz_histogram.specs.declared.group.GroupTotal.{GroupTotal}
use Rattle.sqz_histogram.specs.Histogram.{IsHistogram}
use Rattle.sqz_histogram.specs.Keys.{key_of}
use Rattle.sqz_answers.specs.declared.retained_histograms.RetainedHistogram.{RetainedHistogram}
use Rattle.sqz_answers.specs.declared.retained_histograms.RetainedTotal.{RetainedTotal}
use Rattle.sqz_answers.specs.Together.{AreRetainedByGroup}

-- a total, with what its group retains, given the number of objects and, by key, what groups retain
abbrev pub retained_total : ℕ → List ℕ → GroupTotal → RetainedTotal
retained_total count sums total = record { total = total; retained = slice_index sums (key_of count total.group) }

-- whether a group retains more bytes than another
abbrev pub group_retains_more : RetainedTotal → RetainedTotal → Bool
group_retains_more one other = is_lt (nat_cmp other.retained one.retained)

-- each total of the class histogram, with what its group retains
pub record AreRetainedTotals (memory : Memory) (weak : Weak) (totals : List GroupTotal) (rows : List RetainedTotal) : Type 0 where
  pub are : map (λ row. row.total) rows ≡ totals
  pub each : All (λ row. AreRetainedByGroup memory weak row.total.group row.retained) rows

-- the class histogram of the marked objects, the groups that retain more first; on a tie they have
-- the order of the histogram
pub record IsRetainedHistogram (memory : Memory) (weak : Weak) (marks : List Bool) (histogram : RetainedHistogram) : Type 0 where
  pub totals : List GroupTotal
  pub is : IsHistogram memory weak marks totals
  pub listed : List RetainedTotal
  pub rows : AreRetainedTotals memory weak totals listed
  pub same : IsPermutation listed histogram.rows.items
  pub sorted : IsSortedBy group_retains_more histogram.rows.items
  pub stable : IsStableBy group_retains_more listed histogram.rows.items
  pub objects : histogram.objects ≡ length (live memory marks)
  pub bytes : histogram.bytes ≡ bytes_in (live memory marks)
