use Rattle.std.proofs.Common.{◌≡◌, ◌||◌, ℕ, List}
use Rattle.std.specs.BTreeSet.{contains_text}
use Rattle.std.specs.List.{list_any}
use Rattle.std.specs.BTreeMap.{is_at, keys}
use Rattle.std.proofs.lemmas.Map.Text.{text_cmp}
use Rattle.sqz_answers.proofs.changes.add_names.Given as goal

abbrev pub invariant-loop-name : goal.invariant-loop-name
invariant-loop-name g l = (q : List ℕ) → (contains_text l.names q || list_any (is_at (text_cmp q)) l.name-iterator)
    ≡ (contains_text l.initial.names q || list_any (is_at (text_cmp q)) (keys l.map))
