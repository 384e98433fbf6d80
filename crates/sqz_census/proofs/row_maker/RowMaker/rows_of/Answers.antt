use Rattle.std.proofs.Common.{ap, ◌∙◌}
use Rattle.rayon.proofs.ToStd.{slice-AllZip}
use Rattle.sqz_census.proofs.RowLemmas.{IsRowOf, rows_zipped}
use Rattle.sqz_census.proofs.row_maker.RowMaker.rows_of.Goals as goal

pub returns : goal.returns
returns g c =
    let memory = c.args.self.now.graph.heap.now in
    let weak = c.args.self.now.graph.weak in
    let places = c.args.self.now.forward.now in
    let totals = c.args.totals.now in
    let slice = ap (λ it. it.slice.now) c.map.ensures.base ∙ c.par_iter.ensures in
    let done = c.in_ok-collect.ensures in
    let chain = done.1 in
    let zipped = slice-AllZip chain.0 totals (chain.1 ∙ slice) (IsRowOf memory weak places) done.0 (rw c.map.ensures.f at chain.2) in
    rows_zipped memory weak places totals done.0 c.in_ok-collect.field-0 done.2 zipped
