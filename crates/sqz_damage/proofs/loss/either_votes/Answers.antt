use Rattle.std.proofs.Common.{◌≡◌, ◌<◌, ◌∙◌, false, length, ap, arith, inl, inr}
use Rattle.std.specs.Prelude.{replicate}
use Rattle.std.proofs.lemmas.Bool.{cases_eq}
use Rattle.std.proofs.lemmas.List.{get_or-set_same, get_or-set_other, length-set, length-replicate}
use Rattle.sqz_damage.proofs.loss.either_votes.Goals as goal

pub loop-k-init : goal.loop-k-init
loop-k-init c =
    let items : c.in_ok-found.found.items ≡ replicate c.args.count false = c.in_ok-found.ensures.items_if_clones_equal (λ y is. is) in
    (ap length items ∙ length-replicate c.args.count false, λ j lt. absurd (omega arith))

pub loop-k-preserved : goal.loop-k-preserved
loop-k-preserved c =
    let items = c.loop-k.found.items in
    let k = c.loop-k.k in
    let one = c.has_either_vote.result in
    let room : k < length items = omega (arith, c.loop-k.invariant.0, c.loop-k-test.true) in (
      length-set items k one ∙ c.loop-k.invariant.0,
      λ j lt. elim (cases_eq j k) [
        | inl same ↦ rw same (get_or-set_same items k one false room ∙ c.has_either_vote.ensures)
        | inr apart ↦ get_or-set_other items k j one false apart ∙ c.loop-k.invariant.1 j (omega arith)
      ],
    )
