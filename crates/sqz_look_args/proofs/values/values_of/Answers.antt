use Rattle.std.proofs.Common.{Some, None, ◌∙◌, ap}
use Rattle.std.proofs.lemmas.Result.{IfOk-weaker}
use Rattle.clap.specs.Walk.{texts}
use Rattle.clap.specs.Words.{found_of}
use Rattle.sqz_look_args.proofs.RequestLemmas.{values_given}
use Rattle.sqz_look_args.proofs.values.values_of.Goals as goal

pub returns-in-Some : goal.returns-in-Some
returns-in-Some c =
    let are = values_given (found_of c.args.matches.now) c.args.id.now (Some c.in-Some.values) c.in-Some.ensures in
    IfOk-weaker c.from_slice.result _ _ (λ values same. ap texts same ∙ are) c.from_slice.ensures.items

pub returns-in-None : goal.returns-in-None
returns-in-None c =
    ap texts c.new.ensures.items ∙ values_given (found_of c.args.matches.now) c.args.id.now None c.in-None.ensures
