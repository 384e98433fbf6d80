use Rattle.std.proofs.Common.{◌≡◌, Bool, true, false, not, refl, ap}
use Rattle.sqz_look_check.proofs.check.warnings_in.Goals as goal

true_unless : (b : Bool) → not b ≡ false → b ≡ true
true_unless true is = refl
true_unless false is = cc

pub returns-clause-warned : goal.returns-clause-warned
returns-clause-warned c =
    let empty = c.is_empty-are_some in
    record {
      unasked = λ no. let bad : false ≡ true = rw no at c.if-not-strict.false in cc;
      asked = λ yes. record {
        findings = c.in_ok-findings.findings;
        found = c.in_ok-findings.ensures.exact;
        nothing = (λ none. empty.ensures.0 (true_unless empty.result none), λ nothing. ap not (empty.ensures.1 nothing));
      };
    }
