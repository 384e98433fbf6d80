use Rattle.std.proofs.Common.{◌≡◌, ◌∙◌, ◌<◌, ◌+◌, ◌++◌, ◌∷◌, [], ℕ, suc, Bool, false, cond, List, Option, Some, None, ap, subst, sym, length, arith}
use Rattle.std.specs.Prelude.{Contains}
use Rattle.std.specs.List.{find}
use Rattle.std.proofs.lemmas.List.{get_or_default, get_or_read}
use Rattle.sqz_alike.specs.declared.matching.Pair.{Pair}
use Rattle.sqz_alike.specs.Matching.{partner_in}
use Rattle.sqz_alike.proofs.MatchingLemmas.{pair_of}
use Rattle.sqz_changes.specs.declared.leads.Step.{Step}
use Rattle.sqz_changes.specs.Anchors.{is_with}
use Rattle.sqz_changes.specs.Compared.{Compared, anchors, compared, is_anchor}
use Rattle.sqz_changes.specs.Leads.{AreFirst}
use Rattle.sqz_changes.specs.Owners.{first_leads, first_steps, lead_of, leads_to}
use Rattle.sqz_changes.proofs.AnchorLemmas.{eq_some}
use Rattle.sqz_changes.proofs.PairLemmas.{is_pair-of, partners}
use Rattle.sqz_changes.proofs.leads.leads_of.Goals as goal

pub loop-index-preserved : goal.loop-index-preserved
loop-index-preserved c =
    let comparison = c.args.comparison.now in
    let all : Compared = compared comparison in
    let index : ℕ = c.loop-index.index in
    let pair : Pair = c.pair_at-object.result in
    let pairs : List Pair = comparison.matching.now.pairs.items in
    let new_of : List (Option ℕ) = comparison.matching.now.new_of.items in
    let none : Option Step = None in
    let one : suc index ≡ index + 1 = omega arith in
    let within : index < length pairs =
    omega (arith, c.loop-index-test.true, c.loop-index.auto.index-end, c.pair_count-index-end.ensures.count) in
    let paired : Contains pairs pair =
    (index, within, get_or_default pairs index pair (pair_of 0 0) within ∙ sym c.pair_at-object.ensures.pair) in
    let partnered : partner_in new_of pair.old ≡ Some pair.new =
    eq_some _ _ (partners comparison.old.now comparison.new.now comparison.matching.now comparison.walk pair.old pair.new ∙ is_pair-of pairs pair paired) in
    let flag : c.index.result.now ≡ is_anchor all pair =
    get_or_read c.in_ok-anchored.anchored.items _ _ (omega (arith, c.in_ok-anchored.ensures.sized, c.pair_at-object.ensures.old)) c.index.ensures false
    ∙ c.in_ok-anchored.ensures.anchored pair.old
    ∙ ap (is_with (anchors all) pair.old) partnered in
    let first : c.index-in-loop-index.result.now ≡ find (leads_to all pair) (first_steps all index) =
    get_or_read c.loop-index.found.items _ _ (omega (arith, c.loop-index.invariant.sized, c.pair_at-object.ensures.old)) c.index-in-loop-index.ensures none
    ∙ c.loop-index.invariant.first pair paired in
    let lead : c.unless.result ≡ lead_of all index =
    c.unless.ensures
    ∙ ap (λ (b : Bool). cond b none c.index-in-loop-index.result.now) flag
    ∙ ap (cond (is_anchor all pair) none) first
    ∙ ap (λ (p : Pair). cond (is_anchor all p) none (find (leads_to all p) (first_steps all index))) c.pair_at-object.ensures.pair in
    record {
      leads = c.in_ok-push.ensures.items
          ∙ ap (λ (xs : List (Option Step)). xs ++ c.unless.result ∷ []) c.loop-index.invariant.leads
          ∙ ap (λ (o : Option Step). first_leads all index ++ o ∷ []) lead
          ∙ ap (first_leads all) one;
      first = subst (λ (n : ℕ). AreFirst all (first_steps all n) c.follow.new.found.items) one
          (c.follow.ensures.first (first_steps all index) c.loop-index.invariant.first);
      sized = c.follow.ensures.sized ∙ c.loop-index.invariant.sized;
    }
