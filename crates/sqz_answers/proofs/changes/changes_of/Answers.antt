use Rattle.std.proofs.Common.{◌≡◌, ◌||◌, ◌∙◌, List, String, ap, subst, sym, is_some}
use Rattle.std.specs.BTreeMap.{get_by_text}
use Rattle.std.specs.List.{list_any}
use Rattle.std.specs.List.Sorted.{IsStrictlySortedBy}
use Rattle.std.specs.String.{string_cmp}
use Rattle.std.specs.declared.alloc.Global.{Global}
use Rattle.sqz_answers.proofs.ChangeLemmas.{is_named, IsListing-yes, AreChanges-all}
use Rattle.sqz_answers.proofs.changes.changes_of.Goals as goal

pub loop-name-preserved-in-Continue-branch-5 : goal.loop-name-preserved-in-Continue-branch-5
loop-name-preserved-in-Continue-branch-5 g c =
    let named = rw c.in-Some-2.is at c.in_ok-change.ensures.named in
    let is = rw c.in-Some-2.is at c.in_ok-change.ensures.is in
    rw c.in_ok-push.ensures.items
    (IsListing-yes g.V.PartialEq.eq c.args.old.now c.args.new.now c.into_iter-name-iterator.result c.loop-name.name-iterator c.next.new.self
    c.loop-name.changes.items c.in-Some.name.now c.in-Some.ensures.steps c.loop-name.invariant c.in-Some-2.change
    (named ∙ c.as_str.ensures.value) is)

pub returns : goal.returns
returns g c =
    let names = c.into_iter-name-iterator.result in
    let old = c.args.old.now in
    let new = c.args.new.now in
    let all = c.add_names-2.new.names.keys in
    let are : names ≡ all = c.into_iter-name-iterator.ensures.into_iter_gives ∙ c.iter-name-items.ensures.rest in
    AreChanges-all g.V.PartialEq.eq old new names c.loop-name.name-iterator c.loop-name.changes.items c.in-None.ensures.steps.0
    c.loop-name.invariant (subst (IsStrictlySortedBy string_cmp) (sym are) c.iter-name-items.ensures.ordered)
    (λ wanted.
    ap (λ (keys : List (String Global)). list_any (is_named wanted) keys) are
    ∙ c.in_ok-add_names-2.ensures wanted
    ∙ ap (λ b. b || is_some (get_by_text new wanted))
    (c.in_ok-add_names.ensures wanted
    ∙ ap (λ (keys : List (String Global)). list_any (is_named wanted) keys || is_some (get_by_text old wanted)) c.new-names.ensures.empty))
