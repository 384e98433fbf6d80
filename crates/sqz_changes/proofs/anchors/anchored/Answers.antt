use Rattle.std.proofs.Common.{◌≡◌, ◌∙◌, ◌<◌, ◌++◌, ℕ, List, Option, Some, ap, subst, sym, length, take, arith, add-one}
use Rattle.std.proofs.Math.Seq.{take-suc}
use Rattle.std.proofs.lemmas.List.{take_all}
use Rattle.sqz_alike.specs.declared.matching.Pair.{Pair}
use Rattle.sqz_alike.specs.Matching.{partner_in}
use Rattle.sqz_image.specs.Objects.{find}
use Rattle.sqz_changes.specs.Anchors.{AreAnchored, is_with}
use Rattle.sqz_changes.specs.Compared.{compared, pair_of_both, roots_of}
use Rattle.sqz_changes.proofs.anchors.anchored.Goals as goal

pub loop-pair-preserved : goal.loop-pair-preserved
loop-pair-preserved c =
    let named : List Pair = c.args.comparison.now.named.now in
    let new_of : List (Option ℕ) = c.args.comparison.now.matching.now.new_of.items in
    let lt : c.loop-pair.pair-index < length named = omega (arith, c.loop-pair-test.true, c.loop-pair.auto.pair-index-end) in
    record {
      flags = λ object.
          c.anchor.ensures.anchored (take c.loop-pair.pair-index named) c.loop-pair.invariant.flags object
          ∙ sym (ap (λ (pairs : List Pair). is_with pairs object (partner_in new_of object))
          (ap (λ (n : ℕ). take n named) (add-one c.loop-pair.pair-index) ∙ take-suc named c.loop-pair.pair-index _ lt));
      sized = c.anchor.ensures.sized ∙ c.loop-pair.invariant.sized;
    }

pub returns-clause-anchored : goal.returns-clause-anchored
returns-clause-anchored c object =
    let comparison = c.args.comparison.now in
    let named : List Pair = comparison.named.now in
    let new_of : List (Option ℕ) = comparison.matching.now.new_of.items in
    let heap = comparison.old.now.graph.heap.now in
    let other = comparison.new.now.graph.heap.now in
    let whole = take_all c.loop-pair.pair-index named (omega (arith, c.loop-pair-test.false)) in
    let flags : AreAnchored new_of named c.loop-pair.anchored.items =
    subst (λ (pairs : List Pair). AreAnchored new_of pairs c.loop-pair.anchored.items) whole c.loop-pair.invariant.flags in
    let roots : roots_of (compared comparison) ≡ pair_of_both (Some c.special.result) (Some c.special-2.result) =
    ap (λ (o : Option ℕ). pair_of_both o (find other other.special)) c.special.ensures.special
    ∙ ap (pair_of_both (Some c.special.result)) c.special-2.ensures.special in
    c.anchor-2.ensures.anchored named flags object
    ∙ sym (ap (λ (pairs : List Pair). is_with (named ++ pairs) object (partner_in new_of object)) roots)
