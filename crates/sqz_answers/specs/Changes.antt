-- What differs between two maps from names.
use Rattle.std.specs.Prelude.{◌≡◌, ℕ, Bool, true, false, not, List, map, All, Contains, Option, Some, None, string_bytes, String}
use Rattle.std.specs.BTreeMap.{BTreeMap, get_by_text}
use Rattle.std.specs.Cmp.Lexicographic.{slice_cmp}
use Rattle.std.specs.List.{AllPairs}
use Rattle.std.specs.Ordering.{nat_cmp}
use Rattle.std.specs.declared.alloc.Global.{Global}
use Rattle.std.specs.declared.cmp.Ordering.TheVariants.{Less}
use Rattle.sqz_answers.specs.declared.changes.Change.{Change}

-- whether one of two values is missing, or they are not the same
abbrev pub differ : {V : Type 0} → (V → V → Bool) → Option V → Option V → Bool
differ same None None = false
differ same (Some one) (Some other) = not (same one other)
differ same _ _ = true

-- the bytes of the names
abbrev pub names_of : {V : Type 0} → List (Change V) → List (List ℕ)
names_of changes = map (λ change. string_bytes change.name) changes

-- of two names, the lower by their bytes
abbrev pub ComesBefore : List ℕ → List ℕ → Type 0
ComesBefore one other = slice_cmp nat_cmp one other ≡ Less

-- what two maps hold by a name, which is not the same
pub record IsChange {V : Type 0} (same : V → V → Bool) (old new : BTreeMap (String Global) V) (change : Change V) : Type 0 where
  pub old_is : change.old ≡ get_by_text old (string_bytes change.name)
  pub new_is : change.new ≡ get_by_text new (string_bytes change.name)
  pub differs : differ same change.old change.new ≡ true

-- each name by which they do not hold the same, once, in order
pub record AreChanges {V : Type 0} (same : V → V → Bool) (old new : BTreeMap (String Global) V) (changes : List (Change V)) : Type 0 where
  pub each : All (IsChange same old new) changes
  pub all : (name : List ℕ) → differ same (get_by_text old name) (get_by_text new name) ≡ true → Contains (names_of changes) name
  pub ordered : AllPairs ComesBefore (names_of changes)
