use Rattle.std.proofs.Common.{sym, ◌∙◌, arith}
use Rattle.sqz_names.proofs.NumberLemmas.{Reads-address}
use Rattle.sqz_names.proofs.words.numbers.address_in.Goals as goal

pub returns : goal.returns
returns c =
    let none = sym (c.starts_with.ensures.byte (omega arith) (omega arith) (λ text at finds. finds)) ∙ c.if-starts_with.false in
    rw c.ok.ensures.value
    (Reads-address c.args.word.now c.from_str_radix.result (omega (arith, c.if-word-gt-MOST_DIGITS.false)) none c.from_str_radix.ensures.value)
