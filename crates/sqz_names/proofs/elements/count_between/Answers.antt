use Rattle.std.proofs.Common.{ℤ, pos, ◌+ℤ◌, ◌-ℤ◌, ◌≡◌, ◌∙◌, ap, arith, to_z, of_z, w64}
use Rattle.std.proofs.lemmas.Int.{ints}
use Rattle.sqz_names.specs.Elements.{natural}
use Rattle.sqz_names.proofs.elements.count_between.Goals as goal

pub returns : goal.returns
returns c =
    let wide : ℤ → ℤ = λ number. to_z w64 (of_z w64 number) in
    let count : ℤ = wide (wide (wide c.from.result -ℤ wide c.from-2.result) +ℤ pos 1) in
    let same : count ≡ (c.args.last -ℤ c.args.first) +ℤ pos 1 = omega (arith, ints) in
    c.natural.ensures ∙ ap natural same
