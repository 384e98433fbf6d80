use Rattle.std.proofs.Common.{ap, ◌∙◌, arith, map, sym, ◌++◌, ◌≡◌, List, ℕ}
use Rattle.std.specs.List.{flat_map}
use Rattle.std.proofs.lemmas.List.{take_all}
use Rattle.std.proofs.lemmas.List.Folds.{flat_map-map}
use Rattle.sqz_census.specs.declared.row.Row.{Row}
use Rattle.sqz_census.specs.Rows.{shown}
use Rattle.sqz_census.specs.Text.{row_text, total_text}
use Rattle.sqz_census.proofs.printing.print.Goals as goal

pub returns-clause-text : goal.returns-clause-text
returns-clause-text c =
    let rows = c.args.rows.now in
    let lines : c.loop-row.text.items ≡ flat_map row_text (map shown rows) =
    c.loop-row.invariant
    ∙ ap (flat_map (λ (row : Row). row_text (shown row))) (take_all c.loop-row.row-index rows (omega arith))
    ∙ sym (flat_map-map row_text shown rows)
    in
    c.in_ok-add_total.ensures ∙ ap (λ (text : List ℕ). text ++ total_text (map shown rows)) lines
