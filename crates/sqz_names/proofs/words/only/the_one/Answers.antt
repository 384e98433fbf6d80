use Rattle.std.proofs.Common.{List, Contains, ◌≡◌, ℕ, ap, subst, sym, ◌∙◌}
use Rattle.std.specs.Prelude.{IfSome, Some}
use Rattle.std.proofs.lemmas.List.Elements.{All-contains_itself}
use Rattle.sqz_names.specs.Found.{the_only}
use Rattle.sqz_names.proofs.OnlyLemmas.{All-the_only}
use Rattle.sqz_names.proofs.words.only.the_one.Goals as goal

pub returns-in-Some-clause-about : goal.returns-in-Some-clause-about
returns-in-Some-clause-about c =
    let objects : List ℕ = c.args.objects.items in
    let is : the_only c.args.marks.now objects ≡ Some c.in-Some.object =
    ap (the_only c.args.marks.now) (sym c.deref.ensures.value) ∙ sym c.the_only.ensures ∙ c.in-Some.is in
    subst (λ found. IfSome found (Contains objects)) is (All-the_only (Contains objects) c.args.marks.now objects (All-contains_itself objects))

pub returns-in-None-clause-about : goal.returns-in-None-clause-about
returns-in-None-clause-about c = All-contains_itself c.args.objects.items
