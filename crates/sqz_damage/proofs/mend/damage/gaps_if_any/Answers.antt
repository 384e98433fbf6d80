use Rattle.std.proofs.lemmas.Result.{IfOk-weaker}
use Rattle.sqz_damage.proofs.SoundnessLemmas.{HasFault-unsound}
use Rattle.sqz_damage.proofs.mend.damage.gaps_if_any.Goals as goal

pub returns-in-Some-clause-gaps : goal.returns-in-Some-clause-gaps
returns-in-Some-clause-gaps g c =
    let unsound = HasFault-unsound c.args.weak c.args.file.now c.in-Some.field-0 (rw c.in-Some.is at c.in_ok-fault_of.ensures) in
    IfOk-weaker c.gaps_in.result _ _
    (λ gaps are. record { sound = λ sound. absurd (unsound sound); unsound = λ no. are })
    c.gaps_in.ensures.gaps
