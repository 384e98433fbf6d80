use Rattle.std.proofs.Common.{◌≡◌, ◌∙◌, ◌<◌, Bool, true, false, not, List, Option, Some, None, refl, sym, length, arith, slice_index_or}
use Rattle.std.specs.Prelude.{is_some}
use Rattle.std.proofs.lemmas.List.{get_or_read}
use Rattle.sqz_changes.specs.declared.leads.Step.{Step}
use Rattle.sqz_changes.specs.Compared.{compared}
use Rattle.sqz_changes.proofs.LeadLemmas.{AreFirst-kept, AreFirst-none, AreFirst-set}
use Rattle.sqz_changes.proofs.PairLemmas.{one_partner}
use Rattle.sqz_changes.proofs.leads.note.Goals as goal

none_of : (o : Option Step) (b : Bool) → is_some o ≡ not b → b ≡ true → o ≡ None
none_of (Some x) true e f = absurd cc
none_of (Some x) false e f = absurd cc
none_of None b e f = refl

some_of : (o : Option Step) (b : Bool) → is_some o ≡ not b → b ≡ false → (x : Step) × (o ≡ Some x)
some_of (Some x) b e f = (x, refl)
some_of None true e f = absurd cc
some_of None false e f = absurd cc

pub returns-then-is_none-clause-first : goal.returns-then-is_none-clause-first
returns-then-is_none-clause-first c steps are =
    let comparison = c.args.comparison.now in
    let found : List (Option Step) = c.args.found.now.items in
    let none : Option Step = None in
    let inside : c.in-Some.pair.old < length found = omega (arith, c.in-Some.ensures.inside, c.requires.sized) in
    let free : slice_index_or found c.in-Some.pair.old none ≡ none =
    sym (get_or_read found _ _ inside c.index.ensures none) ∙ none_of _ _ c.is_none.ensures c.if-is_none.true in
    AreFirst-set (compared comparison) c.args.step steps found are c.in-Some.pair (sym c.target_pair.ensures.pair ∙ c.in-Some.is)
    (one_partner comparison.old.now comparison.new.now comparison.matching.now comparison.walk) free inside

pub returns-else-is_none-clause-first : goal.returns-else-is_none-clause-first
returns-else-is_none-clause-first c steps are =
    let comparison = c.args.comparison.now in
    let found : List (Option Step) = c.args.found.now.items in
    let none : Option Step = None in
    let inside : c.in-Some.pair.old < length found = omega (arith, c.in-Some.ensures.inside, c.requires.sized) in
    let some : (x : Step) × (c.index.result.now ≡ Some x) = some_of _ _ c.is_none.ensures c.if-is_none.false in
    AreFirst-kept (compared comparison) c.args.step steps found are c.in-Some.pair (sym c.target_pair.ensures.pair ∙ c.in-Some.is)
    (one_partner comparison.old.now comparison.new.now comparison.matching.now comparison.walk) some.0
    (sym (get_or_read found _ _ inside c.index.ensures none) ∙ some.1)

pub returns-in-None-clause-first : goal.returns-in-None-clause-first
returns-in-None-clause-first c steps are =
    AreFirst-none (compared c.args.comparison.now) c.args.step steps c.args.found.now.items are (sym c.target_pair.ensures.pair ∙ c.in-None.is)
