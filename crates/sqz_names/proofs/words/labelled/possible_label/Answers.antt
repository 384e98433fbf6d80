use Rattle.std.proofs.Common.{◌≡◌, false, sym, ◌∙◌, true≢false, rules}
use Rattle.sqz_names.specs.LabelOrder.{IsUnplaced}
use Rattle.sqz_names.specs.Texts.{begins_as_text}
use Rattle.sqz_names.proofs.LabelLemmas.{begins_as_text-only, IsFirst-text}
use Rattle.sqz_names.proofs.words.labelled.possible_label.Goals as goal

pub returns-then-not-begins_as_text-clause-none : goal.returns-then-not-begins_as_text-clause-none
returns-then-not-begins_as_text-clause-none c none only =
    let memory = c.args.names.now.graph.heap.now in
    let weak = c.args.names.now.graph.weak in
    let unplaced : IsUnplaced c.args.names.now.graph.heap.now c.args.names.now.graph.weak c.args.object = search rules in
    let other : begins_as_text c.args.words.now ≡ false = search rules in
    true≢false (sym (begins_as_text-only memory weak c.args.object c.args.words.now only unplaced) ∙ other)

pub returns-in-Other-clause-none : goal.returns-in-Other-clause-none
returns-in-Other-clause-none c none only =
    let memory = c.args.names.now.graph.heap.now in
    let weak = c.args.names.now.graph.weak in
    let unplaced : IsUnplaced c.args.names.now.graph.heap.now c.args.names.now.graph.weak c.args.object = search rules in
    let label = c.in_ok-label-2.label in
    let its = c.in_ok-label-2.ensures in
    (only label its.label (IsFirst-text memory weak c.args.object label unplaced its.text)).0 c.in-Other.is
