use Rattle.std.proofs.Common.{arith}
use Rattle.sqz_marks.proofs.WonLemmas.{length-won-le}
use Rattle.sqz_workers.proofs.RemainingLemmas.{marks_of-scanned}
use Rattle.sqz_workers.proofs.marked.Marked.of_closed.Goals as goal

pub worker_counts-requires : goal.worker_counts-requires
worker_counts-requires c =
    let ended = c.requires in
    let won = length-won-le c.args.heap.now c.args.weak ended.view c.args.closed.shades.items c.finish-marks.result ended.closed
    c.finish-marks.ensures in
    omega (arith, won, c.count.ensures, ended.enough)

pub returns-clause-same : goal.returns-clause-same
returns-clause-same c =
    let ended = c.requires in
    marks_of-scanned c.args.heap.now c.args.weak ended.view c.args.closed.shades.items c.finish-marks.result ended.closed
    ended.scanned c.finish-marks.ensures
