use Rattle.std.proofs.Common.{◌<◌, ◌∙◌, below_more, length, sym, arith}
use Rattle.sqz_names.specs.Elements.{is_named}
use Rattle.sqz_names.proofs.PositionLemmas.{position-found, position-none}
use Rattle.sqz_names.proofs.elements.place_of.Goals as goal

pub returns-then-branch : goal.returns-then-branch
returns-then-branch c =
    let inside : c.loop-place.place < length c.args.variables.now = omega arith in
    position-found (is_named c.args.names.now.graph.heap.now c.args.name.now) c.args.variables.now 0 c.loop-place.place inside
    c.loop-place.invariant (sym c.in_ok-is_named.ensures ∙ c.if-branch.true)

pub returns : goal.returns
returns c =
    position-none (is_named c.args.names.now.graph.heap.now c.args.name.now) c.args.variables.now 0
    (λ k lt. c.loop-place.invariant k (omega (arith, lt)))

pub loop-place-preserved : goal.loop-place-preserved
loop-place-preserved c = below_more _ _ c.loop-place.invariant (sym c.in_ok-is_named.ensures ∙ c.if-branch.false)
