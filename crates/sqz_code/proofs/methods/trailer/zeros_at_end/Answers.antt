use Rattle.std.proofs.Common.{◌≡◌, ◌<◌, ◌≤◌, ℕ, List, Option, not, eqb, unwrap_or, length, take, reverse, sym, ap, ◌∙◌, rules, tests, arith}
use Rattle.std.specs.Prelude.{nat_le, if◌then◌else◌}
use Rattle.std.specs.List.{position}
use Rattle.std.proofs.lemmas.Bool.Decides.{nat_tests}
use Rattle.std.proofs.lemmas.Iterator.{YieldsList-from_take}
use Rattle.std.proofs.lemmas.Iterator.Adapters.{YieldsList-from_rev_slice}
use Rattle.std.proofs.lemmas.Iterator.Search.{position_from_yields_List}
use Rattle.std.proofs.lemmas.List.{length-reverse}
use Rattle.sqz_code.proofs.methods.trailer.zeros_at_end.Goals as goal

-- what is counted if none of the last four bytes is another one
all_or_none : ℕ → ℕ
all_or_none count = if nat_le 4 count then 0 else count

all_if_few : (bytes : List ℕ) → length bytes < 4 → all_or_none (length (reverse bytes)) ≡ length bytes
unfolding all_or_none
all_if_few bytes few = rw length-reverse (grind (arith, nat_tests))

none_if_many : (bytes : List ℕ) → 4 ≤ length bytes → all_or_none (length (reverse bytes)) ≡ 0
unfolding all_or_none
none_if_many bytes many = rw length-reverse (grind (arith, nat_tests))

pub returns-in-Some-clause-zeros : goal.returns-in-Some-clause-zeros
returns-in-Some-clause-zeros c =
    let found : c.position.result ≡ position (λ byte. not (eqb byte 0)) (take 4 (reverse c.args.bytes.now)) =
    position_from_yields_List (λ byte. not (eqb byte 0)) _ _ c.position.result c.position.ensures.ran
    (YieldsList-from_take 4 (YieldsList-from_rev_slice c.args.bytes.now (cc)) c.take-last.ensures.count)
    (λ x b q k. search (rules, tests))
    in
    let default : ℕ = if nat_le 4 (length (reverse c.args.bytes.now)) then 0 else length (reverse c.args.bytes.now) in
    sym (ap (λ (o : Option ℕ). unwrap_or o default) (sym found ∙ c.in-Some.is))

pub returns-in-None-clause-zeros : goal.returns-in-None-clause-zeros
unfolding all_or_none
returns-in-None-clause-zeros c =
    let found : c.position.result ≡ position (λ byte. not (eqb byte 0)) (take 4 (reverse c.args.bytes.now)) =
    position_from_yields_List (λ byte. not (eqb byte 0)) _ _ c.position.result c.position.ensures.ran
    (YieldsList-from_take 4 (YieldsList-from_rev_slice c.args.bytes.now (cc)) c.take-last.ensures.count)
    (λ x b q k. search (rules, tests))
    in
    let default : ℕ = if nat_le 4 (length (reverse c.args.bytes.now)) then 0 else length (reverse c.args.bytes.now) in
    sym (ap (λ (o : Option ℕ). unwrap_or o default) (sym found ∙ c.in-None.is)
    ∙ all_if_few c.args.bytes.now (omega (arith, c.if-bytes-lt-SOURCE_BYTES.true)))

pub returns-in-None-2-clause-zeros : goal.returns-in-None-2-clause-zeros
unfolding all_or_none
returns-in-None-2-clause-zeros c =
    let found : c.position.result ≡ position (λ byte. not (eqb byte 0)) (take 4 (reverse c.args.bytes.now)) =
    position_from_yields_List (λ byte. not (eqb byte 0)) _ _ c.position.result c.position.ensures.ran
    (YieldsList-from_take 4 (YieldsList-from_rev_slice c.args.bytes.now (cc)) c.take-last.ensures.count)
    (λ x b q k. search (rules, tests))
    in
    let default : ℕ = if nat_le 4 (length (reverse c.args.bytes.now)) then 0 else length (reverse c.args.bytes.now) in
    sym (ap (λ (o : Option ℕ). unwrap_or o default) (sym found ∙ c.in-None-2.is)
    ∙ none_if_many c.args.bytes.now (omega (arith, c.if-bytes-lt-SOURCE_BYTES.false)))
