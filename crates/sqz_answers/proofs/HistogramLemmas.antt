-- The groups of a class histogram.
-- Serves `histograms::histogram_of`.
use Rattle.std.proofs.Common.{All, Bool, List, get_or, sym, subst}
use Rattle.std.proofs.lemmas.List.Elements.{All-map, Contains-get_or}
use Rattle.sqz_image.specs.Objects.{Memory, object_count}
use Rattle.sqz_trace.specs.declared.weak.Weak.{Weak}
use Rattle.sqz_histogram.specs.declared.group.GroupTotal.{GroupTotal}
use Rattle.sqz_histogram.specs.Groups.{IsInside}
use Rattle.sqz_histogram.specs.Histogram.{IsHistogram, total_of}
use Rattle.sqz_histogram.proofs.GroupLemmas.{member-inside}

-- each is that of some object
pub totals-inside : (memory : Memory) (weak : Weak) (marks : List Bool) (totals : List GroupTotal)
    → IsHistogram memory weak marks totals → All (λ total. IsInside (object_count memory) total.group) totals
totals-inside memory weak marks totals is =
    let P : GroupTotal → Type 0 = λ total. IsInside (object_count memory) total.group in
    subst (All P) (sym is.are)
    (All-map P (total_of memory weak marks) is.groups
    (λ k d lt. member-inside memory weak marks (get_or is.groups k d) ((is.listed.all (get_or is.groups k d)).0 (Contains-get_or is.groups k d lt))))
