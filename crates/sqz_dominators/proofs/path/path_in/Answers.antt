use Rattle.sqz_dominators.proofs.PathLemmas.{IsShortestPath-back, IsUnreachable-unfound}
use Rattle.sqz_dominators.proofs.path.path_in.Goals as goal

pub returns-in_ok-path_back-in-Some-clause-path : goal.returns-in_ok-path_back-in-Some-clause-path
returns-in_ok-path_back-in-Some-clause-path c =
    let search = c.args.search.now in
    IsShortestPath-back search.graph.heap.now search.graph.weak search.found.items search.places.items search.from.items
    c.requires c.args.object c.in-Some.place c.in-Some.ensures.place c.in-Some.ensures.found
    c.in_ok-path_back-in-Some.field-0.steps.items c.in_ok-path_back-in-Some.ensures

pub returns-in-None-clause-none : goal.returns-in-None-clause-none
returns-in-None-clause-none c =
    let search = c.args.search.now in
    IsUnreachable-unfound search.graph.heap.now search.graph.weak search.found.items search.places.items search.from.items
    c.requires c.args.object c.in-None.ensures.none
