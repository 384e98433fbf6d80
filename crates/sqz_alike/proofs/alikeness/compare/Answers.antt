use Rattle.std.proofs.Common.{◌<◌, ◌∙◌, refl, length, arith, subst, sym}
use Rattle.std.specs.Prelude.{Contains}
use Rattle.std.proofs.Math.Logic.{∥∥₁_elim, ∥∥₁_map, ∥∥₁_prop}
use Rattle.std.proofs.lemmas.List.{get_or_read}
use Rattle.sqz_alike.specs.Alike.{ObjectsMatch}
use Rattle.sqz_alike.specs.Seen.{seen}
use Rattle.sqz_alike.specs.Walk.{Finds}
use Rattle.sqz_alike.proofs.CorrespondenceLemmas.{corresponds}
use Rattle.sqz_alike.proofs.MatchingLemmas.{pair_of}
use Rattle.sqz_alike.proofs.WalkLemmas.{old_inside, new_inside, none_prop, IsWalked-start, IsWalked-more, first_to_differ}
use Rattle.sqz_alike.proofs.alikeness.compare.Goals as goal

pub loop-next-init : goal.loop-next-init
loop-next-init c =
    IsWalked-start c.args.old.now c.args.new.now c.join.new.self c.special.result c.special-2.result c.in_ok-join.field-0
    c.special.ensures.special c.special-2.ensures.special (rw c.in_ok-matching.ensures.none at c.in_ok-join.ensures.joins)
    (rw c.in_ok-matching.ensures.none at c.in_ok-join.ensures.pairs)
    c.in_ok-join.ensures.matching (c.in_ok-join.ensures.old ∙ c.in_ok-matching.ensures.old ∙ c.len.ensures.objects)
    (c.in_ok-join.ensures.new ∙ c.in_ok-matching.ensures.new ∙ c.len-2.ensures.objects)

pub returns-then-not-branch-clause-alike : goal.returns-then-not-branch-clause-alike
returns-then-not-branch-clause-alike c = (
  (λ e. absurd cc),
  (λ alike. absurd (∥∥₁_elim alike none_prop (λ a.
      let inside : c.loop-next.next < length c.loop-next.matching.pairs.items =
      omega (arith, c.loop-next-test.true, c.len-in-loop-next.ensures, c.loop-next.matching.pairs.ok.0) in
      let forced = c.loop-next.invariant.forced a.pairs a.correspond in
      c.in_ok-objects_match.ensures.finds.never c.if-not-branch.true a.pairs a.correspond.once forced
      (a.correspond.each c.index-pair.result.now (forced c.index-pair.result.now (c.loop-next.next, inside, sym c.index-pair.ensures)))))),
)

pub loop-next-preserved : goal.loop-next-preserved
loop-next-preserved c =
    let inside : c.loop-next.next < length c.loop-next.matching.pairs.items =
    omega (arith, c.loop-next-test.true, c.len-in-loop-next.ensures, c.loop-next.matching.pairs.ok.0) in
    IsWalked-more c.args.old.now c.args.new.now c.loop-next.matching c.objects_match.new.matching c.loop-next.next c.index-pair.result.now
    c.loop-next.invariant inside (get_or_read c.loop-next.matching.pairs.items _ _ inside c.index-pair.ensures (pair_of 0 0))
    c.in_ok-objects_match.ensures.walk c.in_ok-objects_match.ensures.finds c.if-not-branch.false
    (c.in_ok-objects_match.ensures.offered c.if-not-branch.false)

pub returns-clause-alike : goal.returns-clause-alike
returns-clause-alike c = (
  (λ e. ∥∥₁_elim c.args.old.now.reachable ∥∥₁_prop (λ one. ∥∥₁_map c.args.new.now.reachable (λ other.
      let walked = c.loop-next.invariant in
      let matching = c.loop-next.matching in
      record {
        pairs = matching.pairs.items;
        correspond = corresponds (seen c.args.old.now) (seen c.args.new.now) matching.pairs.items matching.new_of.items matching.old_of.items
            walked.walk.matched walked.roots.roots walked.roots.old_is walked.roots.new_is walked.roots.paired walked.walk.live
            (λ index early lt. walked.matched index (omega (arith, early, c.loop-next-test.false, c.len-in-loop-next.ensures, c.loop-next.matching.pairs.ok.0)) lt) one other;
      }))),
  (λ alike. refl),
)

pub returns-then-not-branch-clause-inside : goal.returns-then-not-branch-clause-inside
returns-then-not-branch-clause-inside c =
    let inside : c.loop-next.next < length c.loop-next.matching.pairs.items =
    omega (arith, c.loop-next-test.true, c.len-in-loop-next.ensures, c.loop-next.matching.pairs.ok.0) in
    let paired : Contains c.loop-next.matching.pairs.items c.index-pair.result.now =
    (c.loop-next.next, inside, sym c.index-pair.ensures) in
    let walk = c.loop-next.invariant.walk in (
      old_inside c.args.old.now c.args.new.now c.loop-next.matching walk c.index-pair.result.now paired,
      new_inside c.args.old.now c.args.new.now c.loop-next.matching walk c.index-pair.result.now paired,
    )

pub returns-then-not-branch-clause-first : goal.returns-then-not-branch-clause-first
returns-then-not-branch-clause-first c =
    let inside : c.loop-next.next < length c.loop-next.matching.pairs.items =
    omega (arith, c.loop-next-test.true, c.len-in-loop-next.ensures, c.loop-next.matching.pairs.ok.0) in
    first_to_differ c.args.old.now c.args.new.now c.loop-next.matching c.objects_match.new.matching.pairs.items c.loop-next.next
    c.index-pair.result.now c.loop-next.invariant inside
    (get_or_read c.loop-next.matching.pairs.items _ _ inside c.index-pair.ensures (pair_of 0 0))
    (subst (Finds (λ pairs. ObjectsMatch (seen c.args.old.now) (seen c.args.new.now) pairs c.index-pair.result.now) _ _) c.if-not-branch.true
    c.in_ok-objects_match.ensures.finds)
