-- The live words between two objects, some of which are dead.
-- Serves `piece_sizes::piece_size`.
use Rattle.std.proofs.Common.{◌≡◌, ℕ, zero, suc, ◌+◌, ◌-◌, ◌<◌, ◌≤◌, Bool, true, false, List, Option, None, is_some}
use Rattle.std.proofs.Common.{slice_index_or, refl, ap, ◌∙◌, arith}
use Rattle.sqz_image.specs.Objects.{Memory, object_count}
use Rattle.sqz_trace.specs.Graph.{is_marked}
use Rattle.sqz_trace.specs.Live.{live_words_below}
use Rattle.sqz_regions.specs.Bases.{ArePlacesOf}
use Rattle.sqz_trace.proofs.LiveWordLemmas.{live_words_more_yes, live_words_more_no}
use Rattle.sqz_slide.proofs.AddressLemmas.{is_marked-place}

module _ (memory : Memory) (marks : List Bool) where
  -- one object more has no fewer live words below it
  rises_by : (test : Bool) (index : ℕ) → is_marked marks index ≡ test → index < object_count memory
      → live_words_below memory marks index ≤ live_words_below memory marks (index + 1)
  rises_by true index is lt = omega (arith, live_words_more_yes memory marks index lt is)
  rises_by false index is lt = omega (arith, live_words_more_no memory marks index lt is)

  -- nor have more objects
  rises_on : (from more : ℕ) → from + more ≤ object_count memory
      → live_words_below memory marks from ≤ live_words_below memory marks (from + more)
  rises_on from zero le = rw (the_same from) (omega arith)
    where
      the_same : (n : ℕ) → n + 0 ≡ n
      the_same n = omega arith
  rises_on from (suc more) le =
      let next : from + suc more ≡ from + more + 1 = omega arith in
      let here = rises_by (is_marked marks (from + more)) (from + more) refl (omega arith) in
      rw next (omega (arith, rises_on from more (omega arith), here))

  pub live_words_below-rises : (from to : ℕ) → from ≤ to → to ≤ object_count memory
      → live_words_below memory marks from ≤ live_words_below memory marks to
  live_words_below-rises from to le inside =
      let whole : to ≡ from + (to - from) = omega arith in
      rw whole (rises_on from (to - from) (omega arith))

  -- objects without a mark add no words
  dead_on : (from more : ℕ) → from + more ≤ object_count memory
      → ((index : ℕ) → from ≤ index → index < from + more → is_marked marks index ≡ false)
      → live_words_below memory marks (from + more) ≡ live_words_below memory marks from
  dead_on from zero le none = ap (live_words_below memory marks) (omega arith)
  dead_on from (suc more) le none =
      let next : from + suc more ≡ from + more + 1 = omega arith in
      let here = live_words_more_no memory marks (from + more) (omega arith) (none (from + more) (omega arith) (omega arith)) in
      rw next (here ∙ dead_on from more (omega arith) (λ index low high. none index low (omega arith)))

  module _ (places : List (Option ℕ)) (are : ArePlacesOf memory marks places) where
    -- objects without a place add no words
    pub dead_between : (from to : ℕ) → from ≤ to → to ≤ object_count memory
        → ((index : ℕ) → from ≤ index → index < to → slice_index_or places index None ≡ None)
        → live_words_below memory marks to ≡ live_words_below memory marks from
    dead_between from to le inside none =
        let whole : to ≡ from + (to - from) = omega arith in
        rw whole (dead_on from (to - from) (omega arith)
        (λ index low high. is_marked-place memory marks places index are (omega arith) ∙ ap is_some (none index low (omega arith))))
