use Rattle.std.proofs.Common.{rules, ap, map, ◌∙◌}
use Rattle.sqz_census.specs.Rows.{shown, row_at}
use Rattle.sqz_census.proofs.CensusLemmas.{groups_inside, IsCensus-rows}
use Rattle.sqz_census.proofs.rows.census.Goals as goal

pub rows_of-requires : goal.rows_of-requires
rows_of-requires g c = (
  search rules,
  λ k within.
      let kept_inside =
      groups_inside c.args.heap.now c.args.weak c.args.marks.now c.in_ok-totals.totals.items c.in_ok-totals.ensures in
      let inside = rw (← c.deref.ensures.value) at kept_inside in
      inside k within,
)

pub returns-clause-rows : goal.returns-clause-rows
returns-clause-rows g c reach placed =
    let memory = c.args.heap.now in
    let weak = c.args.weak in
    let places = c.args.forward.now in
    let totals = c.in_ok-totals.totals.items in
    let rows_are = c.in_ok-rows.ensures ∙ ap (map (row_at memory weak places)) c.deref.ensures.value in
    IsCensus-rows memory weak c.args.marks.now totals c.in_ok-totals.ensures places c.data.ensures.chunks reach placed
    (map shown c.in_ok-rows.rows.items) rows_are
