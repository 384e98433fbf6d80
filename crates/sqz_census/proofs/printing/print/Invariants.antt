use Rattle.std.proofs.Common.{◌≡◌, take}
use Rattle.std.specs.List.{flat_map}
use Rattle.sqz_census.specs.Rows.{shown}
use Rattle.sqz_census.specs.Text.{row_text}
use Rattle.sqz_census.proofs.printing.print.Given as goal

abbrev pub invariant-loop-row : goal.invariant-loop-row
invariant-loop-row l = l.text.items ≡ flat_map (λ row. row_text (shown row)) (take l.row-index l.rows)
