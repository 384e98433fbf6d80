use Rattle.std.proofs.Common.{◌∙◌}
use Rattle.sqz_answers.proofs.ChangeLemmas.{names-more, names-all}
use Rattle.sqz_answers.proofs.changes.add_names.Goals as goal

pub loop-name-preserved : goal.loop-name-preserved
loop-name-preserved g c = λ wanted.
    names-more c.loop-name.names c.insert.new.self c.in_ok-clone.field-0 c.in-Some.name.now c.in_ok-clone.ensures.cases
    c.in_ok-insert.ensures.updates c.loop-name.name-iterator c.next.new.self c.in-Some.ensures.steps wanted
    ∙ c.loop-name.invariant wanted

pub returns : goal.returns
returns g c = λ wanted.
    names-all c.args.names.now c.loop-name.names c.args.map.now c.loop-name.name-iterator wanted c.in-None.ensures.steps.0
    (c.loop-name.invariant wanted)
