use Rattle.std.proofs.Common.{◌≡◌, ◌<◌, ◌≤◌, length, get_or, map, take, set, sym, ap, subst, ◌∙◌, arith, inl, inr}
use Rattle.std.proofs.lemmas.Bool.{cases_eq}
use Rattle.std.proofs.lemmas.List.{ext_get_or, get_or-map, get_or-set_same, get_or-set_other, get_or-take, length-map}
use Rattle.std.proofs.lemmas.List.{length-set, length-take-le}
use Rattle.std.specs.Slots.{slots_items, slots_counts}
use Rattle.sqz_trace.specs.declared.shades.Shade.TheVariants.{White}
use Rattle.sqz_marks.specs.Table.{shade_of}
use Rattle.sqz_marks.proofs.StepLemmas.{item_at}
use Rattle.sqz_marks.proofs.closed.read_shades.Goals as goal

pub loop-object-preserved : goal.loop-object-preserved
loop-object-preserved c =
    let words = slots_items c.args.closed.now.words in let at = c.loop-object.object in let old = c.loop-object.shades in
    let inside : at < length old = omega (arith, c.loop-object-test.true, c.loop-object.auto.shades) in
    record {
      sized = length-set old at c.shade_of.result ∙ c.loop-object.invariant.sized;
      read = λ object lt. elim (cases_eq object at) [
        | inl same ↦ subst (λ i. get_or (set old at c.shade_of.result) i White ≡ shade_of (get_or words i 0)) (sym same)
            (get_or-set_same old at c.shade_of.result White inside ∙ c.shade_of.ensures
            ∙ ap shade_of (sym (item_at words at c.word.result 0 c.word.ensures)))
        | inr differs ↦ get_or-set_other old at object c.shade_of.result White differs
            ∙ c.loop-object.invariant.read object (omega (arith, lt, differs))
      ];
    }

pub returns : goal.returns
returns c =
    let words = slots_items c.args.closed.now.words in let shades = c.loop-object.shades in let count = length c.args.shades.now in
    let few : count ≤ length words = omega (arith, c.requires.inside, (slots_counts c.args.closed.now.words).0) in
    ext_get_or White shades (map shade_of (take count words))
    (c.loop-object.invariant.sized ∙ sym (length-map (take count words) shade_of ∙ length-take-le count words few))
    (λ object lt.
    let below : object < count = omega (arith, lt, c.loop-object.invariant.sized) in
    c.loop-object.invariant.read object (omega (arith, lt, c.loop-object-test.false, c.loop-object.auto.shades))
    ∙ ap shade_of (sym (get_or-take count words object 0 below))
    ∙ sym (get_or-map shade_of (take count words) object 0 White (omega (arith, below, length-take-le count words few))))
