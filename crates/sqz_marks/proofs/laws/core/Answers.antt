use Rattle.sqz_image.specs.Objects.{objects}
use Rattle.sqz_image.proofs.ObjectLemmas.{find_in-lt}
use Rattle.sqz_trace.specs.Reachability.{graph_from}
use Rattle.sqz_trace.proofs.LawLemmas.{MarksReachable-finished}
use Rattle.sqz_marks.specs.Core.{marking_of, opening}
use Rattle.sqz_marks.proofs.RunLemmas.{IsLawful-opening, IsLawful-led}
use Rattle.sqz_marks.proofs.laws.core.Goals as goal

pub returns-clause-lawful : goal.returns-clause-lawful
returns-clause-lawful c heap weak workers start run state special some legal =
    let marking = marking_of heap weak workers start in
    let inside = find_in-lt heap.memory.base (objects heap.memory) heap.memory.special start special in
    IsLawful-led marking (opening marking) run state (IsLawful-opening marking inside some) legal

pub returns-clause-reachable : goal.returns-clause-reachable
returns-clause-reachable c heap weak workers start state lawful none =
    MarksReachable-finished (graph_from start heap.memory weak) state.shades lawful.shades none
