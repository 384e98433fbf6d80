-- The sizes of classes by their names, one total after the other.
-- Serves `named::sizes_by_name`.
use Rattle.std.proofs.Common.{◌≡◌, ℕ, ◌+◌, ◌<◌, ◌≤◌, Bool, true, false, cond, List, [], ◌∷◌, ◌++◌, length, get_or, take}
use Rattle.std.proofs.Common.{Option, Some, refl, sym, ap, ◌∙◌, arith, inl, inr}
use Rattle.std.specs.Prelude.{String, bytes_eq, string_bytes, sum_by, unwrap_or}
use Rattle.std.specs.BTreeMap.{BTreeMap, UpdatesBy, get_by_text}
use Rattle.std.specs.List.{filter}
use Rattle.std.specs.String.{string_cmp}
use Rattle.std.specs.declared.alloc.Global.{Global}
use Rattle.std.proofs.lemmas.Bool.{cases_Bool}
use Rattle.std.proofs.lemmas.List.{append-nil}
use Rattle.std.proofs.lemmas.List.Elements.{filter_more}
use Rattle.std.proofs.lemmas.List.Sums.{sum_by-cons, sum_by_push, sum_by_more_le}
use Rattle.std.proofs.lemmas.Map.Text.{btree_map_updates_text}
use Rattle.std.proofs.lemmas.Slice.Eq.{bytes_eq-Decides}
use Rattle.sqz_answers.specs.declared.named.NamedTotal.{NamedTotal}
use Rattle.sqz_answers.specs.declared.sizes.Size.{Size}
use Rattle.sqz_answers.specs.Sizes.{no_size, size_of, size_by_name}
use Rattle.sqz_answers.proofs.ChangeLemmas.{bytes_flip}

abbrev count_of : NamedTotal → ℕ
count_of named = named.total.count

abbrev bytes_of : NamedTotal → ℕ
bytes_of named = named.total.bytes

-- some elements have no more than all
filter-le : (f : NamedTotal → ℕ) (test : NamedTotal → Bool) (xs : List NamedTotal) → sum_by f (filter test xs) ≤ sum_by f xs
filter-le f test [] = omega arith
filter-le f test (x ∷ xs) =
    let rest = filter-le f test xs in
    elim (cases_Bool (test x)) [
      | inl passes ↦ rw passes (omega (arith, rest, sum_by-cons f x (filter test xs), sum_by-cons f x xs))
      | inr fails ↦ rw fails (omega (arith, rest, sum_by-cons f x xs))
    ]

objects_of : (xs : List NamedTotal) → (unwrap_or (size_of xs) no_size).objects ≡ sum_by count_of xs
objects_of [] = refl
objects_of (x ∷ xs) = refl

bytes_in : (xs : List NamedTotal) → (unwrap_or (size_of xs) no_size).bytes ≡ sum_by bytes_of xs
bytes_in [] = refl
bytes_in (x ∷ xs) = refl

-- one total more
size_of-push : (xs : List NamedTotal) (x : NamedTotal) → size_of (xs ++ x ∷ [])
    ≡ Some record {
      objects = (unwrap_or (size_of xs) no_size).objects + count_of x;
      bytes = (unwrap_or (size_of xs) no_size).bytes + bytes_of x;
    }
size_of-push [] x = refl
size_of-push (first ∷ others) x =
    λ i. Some record { objects = sum_by_push count_of (first ∷ others) x i; bytes = sum_by_push bytes_of (first ∷ others) x i }

module _ (totals : List NamedTotal) (i : ℕ) (d : NamedTotal) (lt : i < length totals) (before : Option Size) (name : List ℕ)
    (is : before ≡ size_by_name name (take i totals)) where
  -- the sums fit
  pub objects-fit : (unwrap_or before no_size).objects + count_of (get_or totals i d) ≤ sum_by count_of totals
  objects-fit =
      let test : NamedTotal → Bool = λ named. bytes_eq name (string_bytes named.name) in
      let these = ap (λ (size : Option Size). (unwrap_or size no_size).objects) is ∙ objects_of (filter test (take i totals)) in
      omega (arith, these, filter-le count_of test (take i totals), sum_by_more_le count_of totals i d lt)

  pub bytes-fit : (unwrap_or before no_size).bytes + bytes_of (get_or totals i d) ≤ sum_by bytes_of totals
  bytes-fit =
      let test : NamedTotal → Bool = λ named. bytes_eq name (string_bytes named.name) in
      let these = ap (λ (size : Option Size). (unwrap_or size no_size).bytes) is ∙ bytes_in (filter test (take i totals)) in
      omega (arith, these, filter-le bytes_of test (take i totals), sum_by_more_le bytes_of totals i d lt)

  -- the size by a name, with one total more that has it, or has not
  pub size-yes : bytes_eq name (string_bytes (get_or totals i d).name) ≡ true → size_by_name name (take (i + 1) totals)
      ≡ Some record {
        objects = (unwrap_or before no_size).objects + count_of (get_or totals i d);
        bytes = (unwrap_or before no_size).bytes + bytes_of (get_or totals i d);
      }
  size-yes passes =
      let test : NamedTotal → Bool = λ named. bytes_eq name (string_bytes named.name) in
      let named = get_or totals i d in
      ap size_of (filter_more test totals i d lt ∙ ap (λ (b : Bool). filter test (take i totals) ++ cond b (named ∷ []) []) passes)
      ∙ size_of-push (filter test (take i totals)) named
      ∙ ap (λ (size : Option Size). Some record {
        objects = (unwrap_or size no_size).objects + count_of named;
        bytes = (unwrap_or size no_size).bytes + bytes_of named;
      }) (sym is)

  pub size-no : bytes_eq name (string_bytes (get_or totals i d).name) ≡ false → size_by_name name (take (i + 1) totals) ≡ before
  size-no fails =
      let test : NamedTotal → Bool = λ named. bytes_eq name (string_bytes named.name) in
      let named = get_or totals i d in
      ap size_of (filter_more test totals i d lt ∙ ap (λ (b : Bool). filter test (take i totals) ++ cond b (named ∷ []) []) fails
      ∙ append-nil (filter test (take i totals)))
      ∙ sym is

-- the size by each name, once one total more is added to that by its name
module _ (totals : List NamedTotal) (i : ℕ) (lt : i < length totals) (named : NamedTotal) (named_is : named ≡ get_or totals i named)
    (old new : BTreeMap (String Global) Size) (so_far : (name : List ℕ) → get_by_text old name ≡ size_by_name name (take i totals))
    (before : Option Size) (before_is : before ≡ get_by_text old (string_bytes named.name)) where
  pub sizes-more : (key : String Global) → string_bytes key ≡ string_bytes named.name → (size : Size)
      → size ≡ record {
        objects = (unwrap_or before no_size).objects + count_of named;
        bytes = (unwrap_or before no_size).bytes + bytes_of named;
      }
      → UpdatesBy string_cmp (string_cmp key) old new (Some size) → (name : List ℕ) → get_by_text new name ≡ size_by_name name (take (i + 1) totals)
  sizes-more key same size size_is updates name =
      let after = btree_map_updates_text (string_bytes key) old new (Some size) updates name in
      let found = bytes_eq (string_bytes key) name in
      let test : bytes_eq name (string_bytes (get_or totals i named).name) ≡ found =
      ap (λ (one : NamedTotal). bytes_eq name (string_bytes one.name)) (sym named_is)
      ∙ bytes_flip name (string_bytes named.name)
      ∙ ap (λ (bytes : List ℕ). bytes_eq bytes name) (sym same)
      in
      elim (cases_Bool found) [
        | inl passes ↦
            let its_name : string_bytes named.name ≡ name = sym same ∙ (bytes_eq-Decides (string_bytes key) name).0 passes in
            let is : before ≡ size_by_name name (take i totals) = before_is ∙ ap (get_by_text old) its_name ∙ so_far name in
            after ∙ ap (λ (b : Bool). cond b (Some size) (get_by_text old name)) passes
            ∙ ap (λ (one : Size). Some one) size_is
            ∙ ap (λ (one : NamedTotal). Some record {
              objects = (unwrap_or before no_size).objects + count_of one;
              bytes = (unwrap_or before no_size).bytes + bytes_of one;
            }) named_is
            ∙ sym (size-yes totals i named lt before name is (test ∙ passes))
        | inr fails ↦
            after ∙ ap (λ (b : Bool). cond b (Some size) (get_by_text old name)) fails
            ∙ sym (size-no totals i named lt (get_by_text old name) name (so_far name) (test ∙ fails))
      ]
