use Rattle.std.proofs.Common.{sym, ◌∙◌, arith}
use Rattle.sqz_trace.specs.Graph.{is_marked}
use Rattle.sqz_names.proofs.OnlyLemmas.{only_one-second}
use Rattle.sqz_names.proofs.words.only.only_marked.Goals as goal

pub returns-then-is_some : goal.returns-then-is_some
returns-then-is_some c =
    only_one-second (is_marked c.args.marks.now) c.args.objects.now c.loop-object.object-index 0
    (omega (arith, c.loop-object-test.true, c.loop-object.auto.object-index-end))
    c.loop-object.found c.loop-object.invariant (sym c.is_some.ensures ∙ c.if-is_some.true) (sym c.has.ensures ∙ c.if-has.true)
