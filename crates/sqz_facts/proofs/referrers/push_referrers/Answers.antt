use Rattle.std.proofs.Common.{sym, ap, ◌∙◌, List, [], ◌∷◌, ◌++◌, Some, nat_eq}
use Rattle.std.specs.Option.{option_eq}
use Rattle.std.proofs.lemmas.List.{append-nil, append_assoc}
use Rattle.sqz_trace.specs.Edges.{strong_slots}
use Rattle.sqz_trace.proofs.TargetLemmas.{slots_at_end}
use Rattle.sqz_facts.specs.declared.referrers.Referrer.{Referrer}
use Rattle.sqz_facts.specs.Referrers.{referrers_among}
use Rattle.sqz_facts.proofs.ReferrerLemmas.{referrers_among-yes, referrers_among-no}
use Rattle.sqz_facts.proofs.referrers.push_referrers.Goals as goal

pub loop-slot-init : goal.loop-slot-init
loop-slot-init c = sym (append-nil c.args.found.now.items)

pub loop-slot-preserved : goal.loop-slot-preserved
loop-slot-preserved c =
    let test = c.eq.ensures ∙ ap (λ found. option_eq nat_eq found (Some c.args.to)) c.target.ensures.target in
    c.loop-slot.invariant
    ∙ ap (λ more. c.args.found.now.items ++ more)
    (sym (referrers_among-no c.args.edges.now c.args.from c.args.to c.loop-slot.yielded c.in-Some.slot (sym test ∙ c.if-eq.false)))

pub loop-slot-preserved-in-Continue-1 : goal.loop-slot-preserved-in-Continue-1
loop-slot-preserved-in-Continue-1 c =
    let test = c.eq.ensures ∙ ap (λ found. option_eq nat_eq found (Some c.args.to)) c.target.ensures.target in
    let edges = c.args.edges.now in
    let slot = c.in-Some.slot in
    let last : List Referrer = record { object = c.args.from; slot = slot } ∷ [] in
    c.in_ok-push.ensures.items
    ∙ ap (λ items. items ++ last) c.loop-slot.invariant
    ∙ append_assoc c.args.found.now.items (referrers_among edges c.args.from c.args.to c.loop-slot.yielded) last
    ∙ ap (λ more. c.args.found.now.items ++ more)
    (sym (referrers_among-yes edges c.args.from c.args.to c.loop-slot.yielded slot (sym test ∙ c.if-eq.true)))

pub returns : goal.returns
returns c =
    let all =
    slots_at_end (strong_slots c.args.edges.now) _ (c.into_iter-slot-iterator.ensures.into_iter_gives ∙ c.slots-slot-items.ensures)
    c.loop-slot.yielded _ c.loop-slot.yielded_by _ _ c.in-None.is c.next.ensures.steps in
    rw all at c.loop-slot.invariant
