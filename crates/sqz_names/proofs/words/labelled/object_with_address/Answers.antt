use mathlib.Core.List.{append_assoc}
use Rattle.std.proofs.Common.{◌≡◌, ℕ, List, ◌∙◌, ◌++◌, codes, subst, sym, rules}
use Rattle.std.specs.String.{string_bytes}
use Rattle.sqz_names.specs.Texts.{HasLabel}
use Rattle.sqz_names.proofs.WordLemmas.{IsNamed-addressed, IsNamed-label}
use Rattle.sqz_names.proofs.words.labelled.object_with_address.Goals as goal

pub returns-then-eq-clause-named : goal.returns-then-eq-clause-named
returns-then-eq-clause-named c =
    let memory = c.args.names.now.graph.heap.now in
    let weak = c.args.names.now.graph.weak in
    let object = c.in-Some-object_in.object in
    let same : string_bytes c.in_ok-label.field-0 ≡ c.args.words.now = search rules in
    IsNamed-label memory weak c.args.words.now object (subst (HasLabel memory weak object) same c.in_ok-label.ensures)

pub returns-then-eq-2-clause-named : goal.returns-then-eq-2-clause-named
returns-then-eq-2-clause-named c =
    let memory = c.args.names.now.graph.heap.now in
    let weak = c.args.names.now.graph.weak in
    let label : List ℕ = string_bytes c.in_ok-label-2.label in
    let digits : List ℕ = c.in-Some.digits.now in
    let whole : (string_bytes c.in_ok-label-2.label ++ codes " ") ++ c.in-Some.digits.now ≡ c.args.words.now = search rules in
    IsNamed-addressed memory weak c.args.words.now c.in-Some-object_in.object label digits
    (sym whole ∙ append_assoc label (codes " ") digits) c.in-Some-object_in.ensures.at c.in_ok-label-2.ensures
