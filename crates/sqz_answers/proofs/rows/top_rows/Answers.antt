use Rattle.std.proofs.Common.{◌++◌, ◌∙◌, List, ap}
use Rattle.sqz_answers.specs.declared.rows.TopRow.{TopRow}
use Rattle.sqz_answers.proofs.TopRowLemmas.{retained_bytes-small, AreTopRows-first, all-inside, root-inside}
use Rattle.sqz_answers.proofs.rows.top_rows.Goals as goal

pub push_rows-requires-clause-tree : goal.push_rows-requires-clause-tree
push_rows-requires-clause-tree c =
    let graph = c.args.live.now.graph in
    record {
      dominators = c.requires.dominators;
      children = c.in_ok-children.ensures;
      few = c.heap_bounds.ensures.objects;
      small = retained_bytes-small graph.heap.now graph.weak c.args.dominators.now c.requires.dominators c.heap_bounds.ensures.words;
    }

pub push_rows-requires-clause-inside : goal.push_rows-requires-clause-inside
push_rows-requires-clause-inside c =
    let graph = c.args.live.now.graph in
    root-inside graph.heap.now graph.weak c.args.dominators.now c.requires.dominators c.args.parts.now c.args.limits
    c.args.live.now.marks c.args.live.now.reachable c.requires.live

pub returns-clause-rows : goal.returns-clause-rows
returns-clause-rows c =
    let graph = c.args.live.now.graph in
    let adds = c.in_ok-push_rows.ensures in
    AreTopRows-first graph.heap.now graph.weak c.args.dominators.now c.requires.dominators c.args.parts.now c.args.limits
    c.args.live.now.marks c.args.live.now.reachable c.requires.live adds.rows c.push_rows.new.rows.items adds.are
    (adds.added ∙ ap (λ (rows : List TopRow). rows ++ adds.rows) c.new-rows.ensures.items)

pub returns-clause-inside : goal.returns-clause-inside
returns-clause-inside c =
    let graph = c.args.live.now.graph in
    let adds = c.in_ok-push_rows.ensures in
    all-inside graph.heap.now graph.weak c.args.dominators.now c.requires.dominators c.args.parts.now c.args.limits
    c.args.live.now.marks c.args.live.now.reachable c.requires.live adds.rows c.push_rows.new.rows.items adds.are
    (adds.added ∙ ap (λ (rows : List TopRow). rows ++ adds.rows) c.new-rows.ensures.items)

pub groups_of_rows-requires-clause-tree : goal.groups_of_rows-requires-clause-tree
groups_of_rows-requires-clause-tree c =
    let graph = c.args.live.now.graph in
    record {
      dominators = c.requires.dominators;
      children = c.in_ok-children.ensures;
      few = c.heap_bounds.ensures.objects;
      small = retained_bytes-small graph.heap.now graph.weak c.args.dominators.now c.requires.dominators c.heap_bounds.ensures.words;
    }

pub groups_of_rows-requires-clause-inside : goal.groups_of_rows-requires-clause-inside
groups_of_rows-requires-clause-inside c =
    let graph = c.args.live.now.graph in
    let adds = c.in_ok-push_rows.ensures in
    all-inside graph.heap.now graph.weak c.args.dominators.now c.requires.dominators c.args.parts.now c.args.limits
    c.args.live.now.marks c.args.live.now.reachable c.requires.live adds.rows c.deref.result.now adds.are
    (c.deref.ensures.value ∙ adds.added ∙ ap (λ (rows : List TopRow). rows ++ adds.rows) c.new-rows.ensures.items)
