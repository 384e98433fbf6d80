-- The rows of all totals, made one after another.
-- Serves `row_maker::RowMaker::rows_of`.
use Rattle.std.proofs.Common.{◌≡◌, ℕ, List, [], ◌∷◌, map, Vec, Global, Option, refl, ap, subst, ◌∙◌, Ok, Err, Result}
use Rattle.std.specs.Prelude.{IfOk, MatchResult, Contains}
use Rattle.std.specs.List.{AllZip}
use Rattle.std.specs.declared.alloc.AllocError.{AllocError}
use Rattle.sqz_image.specs.Objects.{Memory}
use Rattle.sqz_trace.specs.declared.weak.Weak.{Weak}
use Rattle.sqz_census.specs.declared.row.Row.{Row}
use Rattle.sqz_histogram.specs.declared.group.GroupTotal.{GroupTotal}
use Rattle.sqz_census.specs.Rows.{shown, row_at}

module _ (memory : Memory) (weak : Weak) (places : List (Option ℕ)) where
  abbrev pub IsRowOf : GroupTotal → Result Row AllocError → Type 0
  IsRowOf total result = IfOk result (λ row. shown row ≡ row_at memory weak places total)

  rows_along : (totals : List GroupTotal) (rows : List Row) → AllZip IsRowOf totals (map Ok rows)
      → map shown rows ≡ map (row_at memory weak places) totals
  rows_along [] [] zipped = refl
  rows_along [] (row ∷ rows) zipped = absurd zipped
  rows_along (total ∷ totals) [] zipped = absurd zipped
  rows_along (total ∷ totals) (row ∷ rows) zipped = λ i. zipped.0 i ∷ rows_along totals rows zipped.1 i

  pub rows_zipped : (totals : List GroupTotal) (results : List (Result Row AllocError)) (rows : Result (Vec Row Global) AllocError)
      → MatchResult rows
      (λ rows. (each : List Row) × (results ≡ map Ok each) × (rows.items ≡ each)) (λ error. Contains results (Err error))
      → AllZip IsRowOf totals results
      → IfOk rows (λ rows. map shown rows.items ≡ map (row_at memory weak places) totals)
  rows_zipped totals results (Ok rows) made zipped =
      let each = subst (λ (results : List (Result Row AllocError)). AllZip IsRowOf totals results) made.1 zipped in
      ap (map shown) made.2 ∙ rows_along totals made.0 each
  rows_zipped totals results (Err error) made zipped = tt
