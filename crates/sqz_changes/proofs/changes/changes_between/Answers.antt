use Rattle.std.proofs.Common.{◌≡◌, ◌∙◌, ◌<◌, ℕ, List, Option, ap, length, arith, slice_index_or}
use Rattle.std.specs.Prelude.{IfSome}
use Rattle.std.proofs.lemmas.List.{get_or_read}
use Rattle.std.proofs.lemmas.List.Elements.{All-same}
use Rattle.sqz_changes.specs.declared.leads.Step.{Step}
use Rattle.sqz_changes.specs.Compared.{Compared, compared}
use Rattle.sqz_changes.specs.Changes.{quiet_changes, shown_changes}
use Rattle.sqz_changes.specs.Inside.{IsInside, IsStepInside}
use Rattle.sqz_changes.specs.Owners.{first_owners, leads, owners}
use Rattle.sqz_changes.specs.Tallies.{Tallied, none, tallied}
use Rattle.sqz_changes.proofs.InsideLemmas.{leads-inside, quiet-inside, shown-inside}
use Rattle.sqz_changes.proofs.LeadLemmas.{length-first_leads, length-first_owners, owners-below}
use Rattle.sqz_changes.proofs.TalliesLemmas.{changes-are, pairs-more}
use Rattle.sqz_changes.proofs.changes.changes_between.Goals as goal

-- the owners, by the leads that they are computed from
owners-are : (all : Compared) (found given : List (Option Step)) (list : List ℕ) → given ≡ found → found ≡ leads all
    → list ≡ first_owners given (length given) → list ≡ owners all
owners-are all found given list e f g =
    g
    ∙ ap (λ (xs : List (Option Step)). first_owners xs (length xs)) (e ∙ f)
    ∙ ap (first_owners (leads all)) (length-first_leads all (length all.pairs))

pub owners_of-requires : goal.owners_of-requires
owners_of-requires c =
    let all = compared c.args.comparison.now in
    omega (
      arith,
      ap (length {A = Option Step}) (c.deref.ensures.value ∙ c.in_ok-leads.ensures),
      length-first_leads all (length all.pairs),
      c.pair_count-count.ensures.count,
      c.pair_count-count.ensures.few,
    )

pub index-requires : goal.index-requires
index-requires c =
    let all = compared c.args.comparison.now in
    let list : List ℕ = c.in_ok-owners.owners.items in
    let same : list ≡ owners all = owners-are all c.in_ok-leads.leads.items c.deref.result.now list c.deref.ensures.value c.in_ok-leads.ensures c.in_ok-owners.ensures in
    omega (
      arith,
      ap (length {A = ℕ}) same,
      length-first_owners (leads all) (length all.pairs),
      c.in_ok-owners.owners.ok.0,
      c.loop-pair-test.true,
      c.loop-pair.auto.pair-end,
      c.pair_count-count.ensures.count,
    )

pub add_pair-requires-clause-owner : goal.add_pair-requires-clause-owner
add_pair-requires-clause-owner c =
    let all = compared c.args.comparison.now in
    let list : List ℕ = c.in_ok-owners.owners.items in
    let same : list ≡ owners all = owners-are all c.in_ok-leads.leads.items c.deref.result.now list c.deref.ensures.value c.in_ok-leads.ensures c.in_ok-owners.ensures in
    let within : c.loop-pair.pair < length all.pairs = omega (arith, c.loop-pair-test.true, c.loop-pair.auto.pair-end, c.pair_count-count.ensures.count) in
    let inside : c.loop-pair.pair < length list = omega (arith, ap (length {A = ℕ}) same, length-first_owners (leads all) (length all.pairs), within) in
    let read : c.index.result.now ≡ slice_index_or (owners all) c.loop-pair.pair 0 =
    get_or_read list _ _ inside c.index.ensures 0 ∙ ap (λ (os : List ℕ). slice_index_or os c.loop-pair.pair 0) same in
    let below = owners-below (leads all) (length all.pairs) c.loop-pair.pair within in
    omega (arith, read, below)

pub loop-pair-preserved : goal.loop-pair-preserved
loop-pair-preserved c =
    let all = compared c.args.comparison.now in
    let list : List ℕ = c.in_ok-owners.owners.items in
    let same : list ≡ owners all = owners-are all c.in_ok-leads.leads.items c.deref.result.now list c.deref.ensures.value c.in_ok-leads.ensures c.in_ok-owners.ensures in
    let within : c.loop-pair.pair < length all.pairs = omega (arith, c.loop-pair-test.true, c.loop-pair.auto.pair-end, c.pair_count-count.ensures.count) in
    let inside : c.loop-pair.pair < length list = omega (arith, ap (length {A = ℕ}) same, length-first_owners (leads all) (length all.pairs), within) in
    record {
      are = pairs-more all list c.index.result.now c.loop-pair.pair (tallied c.loop-pair.tallies) (tallied c.add_pair.new.self) none
          c.loop-pair.invariant.are (get_or_read list _ _ inside c.index.ensures 0) c.in_ok-add_pair.ensures.tallied;
      tallies = c.in_ok-add_pair.ensures.tallies;
      few = omega (arith, c.in_ok-add_pair.ensures.few, c.loop-pair.invariant.few);
    }

pub returns-clause-shown : goal.returns-clause-shown
returns-clause-shown c =
    let all = compared c.args.comparison.now in
    let list : List ℕ = c.in_ok-owners.owners.items in
    let same : list ≡ owners all = owners-are all c.in_ok-leads.leads.items c.deref.result.now list c.deref.ensures.value c.in_ok-leads.ensures c.in_ok-owners.ensures in
    let last : c.loop-pair.pair ≡ length all.pairs = omega (arith, c.loop-pair-test.false, c.loop-pair.auto.pair-end, c.pair_count-count.ensures.count) in
    ap (λ (t : Tallied). t.shown) (changes-are all list c.loop-pair.pair (tallied c.loop-pair.tallies) c.loop-pair.invariant.are last same)

pub returns-clause-quiet : goal.returns-clause-quiet
returns-clause-quiet c =
    let all = compared c.args.comparison.now in
    let list : List ℕ = c.in_ok-owners.owners.items in
    let same : list ≡ owners all = owners-are all c.in_ok-leads.leads.items c.deref.result.now list c.deref.ensures.value c.in_ok-leads.ensures c.in_ok-owners.ensures in
    let last : c.loop-pair.pair ≡ length all.pairs = omega (arith, c.loop-pair-test.false, c.loop-pair.auto.pair-end, c.pair_count-count.ensures.count) in
    ap (λ (t : Tallied). t.quiet) (changes-are all list c.loop-pair.pair (tallied c.loop-pair.tallies) c.loop-pair.invariant.are last same)

pub returns-clause-inside : goal.returns-clause-inside
returns-clause-inside c =
    let all = compared c.args.comparison.now in
    let pairs : ℕ = length all.pairs in
    record {
      shown = All-same (IsInside pairs) _ (shown_changes all) (returns-clause-shown c) (shown-inside all);
      quiet = All-same (IsInside pairs) _ (quiet_changes all) (returns-clause-quiet c) (quiet-inside all);
      leads = All-same (λ (lead : Option Step). IfSome lead (IsStepInside pairs)) _ (leads all) c.in_ok-leads.ensures (leads-inside all);
    }
