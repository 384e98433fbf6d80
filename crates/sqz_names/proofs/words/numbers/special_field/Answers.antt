use Rattle.std.proofs.Common.{◌≡◌, ℕ, List, codes, ◌++◌, sym, ap, ◌∙◌}
use Rattle.sqz_names.proofs.NumberLemmas.{Reads-special_field}
use Rattle.sqz_names.proofs.words.numbers.special_field.Goals as goal

pub returns-in_err-rest : goal.returns-in_err-rest
returns-in_err-rest c = rw c.from_residual.ensures (λ field is. c.in_err-rest.ensures.cases is.rest is.split)

pub returns : goal.returns
returns c =
    let rest : List ℕ = c.in_ok-rest.rest.now in
    let cut = c.in_ok-rest.ensures.cases in
    let split : c.args.words.now ≡ codes "special object " ++ rest = cut.1.1 ∙ ap (λ (l : List ℕ). codes "special object " ++ l) (sym cut.2) in
    rw c.ok.ensures.value
    (Reads-special_field c.args.words.now rest split c.from_str_radix.result (rw (← c.before_comma.ensures) c.from_str_radix.ensures.value))
