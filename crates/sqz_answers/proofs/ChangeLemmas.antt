-- The names whose values differ, in order.
-- Serves the functions of `changes`.
use Rattle.std.proofs.Common.{◌≡◌, ◌||◌, ℕ, ◌<◌, Bool, true, false, cond, List, [], ◌∷◌, ◌++◌, length, map, All}
use Rattle.std.proofs.Common.{Option, Some, None, refl, sym, ap, subst, ◌∙◌, arith}
use Rattle.std.specs.Prelude.{String, string_bytes}
use Rattle.std.specs.BTreeMap.{BTreeMap, get_by_text}
use Rattle.std.specs.Prelude.{Contains, bytes_eq, is_some}
use Rattle.std.specs.BTreeMap.{is_at, keys}
use Rattle.std.specs.BTreeSet.{BTreeSet, UpdatesBy, contains_text}
use Rattle.std.specs.List.{AllPairs, filter, list_any}
use Rattle.std.specs.List.Sorted.{IsStrictlySortedBy}
use Rattle.std.specs.String.{string_cmp}
use Rattle.std.proofs.lemmas.Bool.Decides.{same_from_decides}
use Rattle.std.proofs.lemmas.List.{append-nil, append_assoc, get_or-map, length-map, map-append}
use Rattle.std.proofs.lemmas.List.Elements.{All-push}
use Rattle.std.proofs.lemmas.List.Kept.{AllPairs-filter}
use Rattle.std.proofs.lemmas.List.Folds.{Any-from_list_any}
use Rattle.std.proofs.lemmas.Map.Keys.{Less-from_sorted}
use Rattle.std.proofs.lemmas.Map.Made.{is_some-lookup}
use Rattle.std.proofs.lemmas.Map.Text.{text_cmp, is_eq-slice_cmp, btree_set_updates_text}
use Rattle.std.proofs.lemmas.Slice.Eq.{bytes_eq-Decides}
use Rattle.std.specs.declared.alloc.Global.{Global}
use Rattle.sqz_answers.specs.declared.changes.Change.{Change}
use Rattle.sqz_answers.specs.Changes.{differ, names_of, ComesBefore, IsChange, AreChanges}
use Rattle.sqz_answers.proofs.SplitLemmas.{Contains-filter, Contains-map}

module _ {V : Type 0} (same : V → V → Bool) (old new : BTreeMap (String Global) V) where
  -- whether the maps hold the same by a name
  abbrev pub differs : List ℕ → Bool
  differs name = differ same (get_by_text old name) (get_by_text new name)

  abbrev pub texts : List (String Global) → List (List ℕ)
  texts names = map string_bytes names

  -- the changes by some names are listed, but for those by the names that are left
  pub record IsListing (names left : List (String Global)) (changes : List (Change V)) : Type 0 where
    pub each : All (IsChange same old new) changes
    pub listed : names_of changes ++ filter differs (texts left) ≡ filter differs (texts names)

-- ---- names

-- a name is found by its bytes
abbrev pub is_named : List ℕ → String Global → Bool
is_named name key = is_at (text_cmp name) key

is_named-bytes : (name : List ℕ) (key : String Global) → is_named name key ≡ bytes_eq name (string_bytes key)
is_named-bytes name key = is_eq-slice_cmp name (string_bytes key)

pub bytes_flip : (one other : List ℕ) → bytes_eq one other ≡ bytes_eq other one
bytes_flip one other =
    same_from_decides (bytes_eq one other) (bytes_eq other one) (bytes_eq-Decides one other)
    (λ is. sym ((bytes_eq-Decides other one).0 is), λ same. (bytes_eq-Decides other one).1 (sym same))

first_or : (added before rest : Bool) → (cond added true before || rest) ≡ (before || (added || rest))
first_or true true rest = refl
first_or true false rest = refl
first_or false true rest = refl
first_or false false rest = refl

or_none : (b : Bool) → (b || false) ≡ b
or_none true = refl
or_none false = refl

-- one name more is added, a clone of the first one that is left
pub names-more : (old new : BTreeSet (String Global)) (key name : String Global) → string_bytes key ≡ string_bytes name
    → UpdatesBy string_cmp (string_cmp key) old new true → (left rest : List (String Global)) → left ≡ name ∷ rest → (wanted : List ℕ)
    → (contains_text new wanted || list_any (is_named wanted) rest) ≡ (contains_text old wanted || list_any (is_named wanted) left)
names-more old new key name same updates left rest left_is wanted =
    let others = list_any (is_named wanted) rest in
    let found = bytes_eq (string_bytes key) wanted in
    let first : is_named wanted name ≡ found =
    is_named-bytes wanted name ∙ bytes_flip wanted (string_bytes name) ∙ ap (λ (bytes : List ℕ). bytes_eq bytes wanted) (sym same)
    in
    ap (λ (b : Bool). b || others) (btree_set_updates_text (string_bytes key) old new true updates wanted)
    ∙ first_or found (contains_text old wanted) others
    ∙ ap (λ (b : Bool). contains_text old wanted || (b || others)) (sym first)
    ∙ ap (λ (names : List (String Global)). contains_text old wanted || list_any (is_named wanted) names) (sym left_is)

-- all names of a map are added
pub names-all : {V : Type 0} (old new : BTreeSet (String Global)) (map : BTreeMap (String Global) V) (left : List (String Global)) (wanted : List ℕ)
    → left ≡ [] → (contains_text new wanted || list_any (is_named wanted) left) ≡ (contains_text old wanted || list_any (is_named wanted) (keys map))
    → contains_text new wanted ≡ (contains_text old wanted || is_some (get_by_text map wanted))
names-all old new map left wanted none are =
    sym (or_none (contains_text new wanted))
    ∙ ap (λ (names : List (String Global)). contains_text new wanted || list_any (is_named wanted) names) (sym none)
    ∙ are
    ∙ ap (λ (b : Bool). contains_text old wanted || b) (sym (is_some-lookup (is_named wanted) map.entries))

-- a name that is found is one of the names
Contains-texts : (names : List (String Global)) (wanted : List ℕ) → list_any (is_named wanted) names ≡ true → Contains (map string_bytes names) wanted
Contains-texts names wanted there =
    let found = Any-from_list_any (is_named wanted) names there in
    let is : wanted ≡ string_bytes found.1 = (bytes_eq-Decides wanted (string_bytes found.1)).0 (sym (is_named-bytes wanted found.1) ∙ found.4) in
    subst (Contains (map string_bytes names)) (sym is) (Contains-map (λ (name : String Global). string_bytes name) names found.1 (found.0, found.2, found.3))

-- keys that are sorted have bytes that are
AllPairs-texts : (names : List (String Global)) → IsStrictlySortedBy string_cmp names → AllPairs ComesBefore (map string_bytes names)
AllPairs-texts [] sorted i j d lt inside = absurd (omega arith)
AllPairs-texts (first ∷ others) sorted i j d lt inside =
    let names = first ∷ others in
    let long = length-map names (λ (name : String Global). string_bytes name) in
    let there : j < length names = omega (arith, inside, long) in
    rw (
      get_or-map (λ (name : String Global). string_bytes name) names i first d (omega arith),
      get_or-map (λ (name : String Global). string_bytes name) names j first d there,
    )
    (Less-from_sorted string_cmp names i j first sorted lt there)

module _ {V : Type 0} (same : V → V → Bool) (old new : BTreeMap (String Global) V) (names : List (String Global)) where
  module _ (left rest : List (String Global)) (changes : List (Change V)) (name : String Global) (left_is : left ≡ name ∷ rest)
      (is : IsListing same old new names left changes) where
    pub IsListing-no : differs same old new (string_bytes name) ≡ false → IsListing same old new names rest changes
    IsListing-no fails =
        let listed = subst (λ (list : List (String Global)). names_of changes ++ filter (differs same old new) (texts same old new list) ≡ filter (differs same old new) (texts same old new names)) left_is is.listed in
        record {
          each = is.each;
          listed = ap (λ (b : Bool). names_of changes ++ cond b (string_bytes name ∷ filter (differs same old new) (texts same old new rest)) (filter (differs same old new) (texts same old new rest))) (sym fails)
              ∙ listed;
        }

    pub IsListing-yes : (change : Change V) → string_bytes change.name ≡ string_bytes name → IsChange same old new change
        → IsListing same old new names rest (changes ++ change ∷ [])
    IsListing-yes change named change_is =
        let listed = subst (λ (list : List (String Global)). names_of changes ++ filter (differs same old new) (texts same old new list) ≡ filter (differs same old new) (texts same old new names)) left_is is.listed in
        let others = filter (differs same old new) (texts same old new rest) in
        let passes : differs same old new (string_bytes name) ≡ true =
        ap (differs same old new) (sym named)
        ∙ (λ i. differ same (sym change_is.old_is i) (sym change_is.new_is i)) ∙ change_is.differs
        in
        record {
          each = All-push (IsChange same old new) changes change is.each change_is;
          listed = ap (λ (list : List (List ℕ)). list ++ others) (map-append (λ (one : Change V). string_bytes one.name) changes (change ∷ []))
              ∙ append_assoc (names_of changes) (string_bytes change.name ∷ []) others
              ∙ ap (λ (bytes : List ℕ). names_of changes ++ (bytes ∷ others)) named
              ∙ ap (λ (b : Bool). names_of changes ++ cond b (string_bytes name ∷ others) others) (sym passes)
              ∙ listed;
        }

  -- at the end
  pub AreChanges-all : (left : List (String Global)) (changes : List (Change V)) → left ≡ [] → IsListing same old new names left changes
      → IsStrictlySortedBy string_cmp names
      → ((wanted : List ℕ) → list_any (is_named wanted) names ≡ (is_some (get_by_text old wanted) || is_some (get_by_text new wanted)))
      → AreChanges same old new changes
  AreChanges-all left changes none is sorted has =
      let test = differs same old new in
      let all = map string_bytes names in
      let listed : names_of changes ≡ filter test all =
      sym (append-nil (names_of changes))
      ∙ ap (λ (list : List (String Global)). names_of changes ++ filter test (map string_bytes list)) (sym none)
      ∙ is.listed
      in
      record {
        each = is.each;
        all = λ wanted differing.
            subst (λ (list : List (List ℕ)). Contains list wanted) (sym listed)
            (Contains-filter test all wanted (Contains-texts names wanted (has wanted ∙ some (get_by_text old wanted) (get_by_text new wanted) differing)) differing);
        ordered = subst (AllPairs ComesBefore) (sym listed) (AllPairs-filter ComesBefore test all rising);
      }
    where
      some : (one other : Option V) → differ same one other ≡ true → (is_some one || is_some other) ≡ true
      some None None differing = differing
      some (Some one) other differing = refl
      some None (Some other) differing = refl

      rising : AllPairs ComesBefore (map string_bytes names)
      rising = AllPairs-texts names sorted
