-- Objects with names.
-- Serves `singles::single_objects`, `named::named_pairs` and `named::only_in`.
use Rattle.std.proofs.Common.{◌≡◌, ℕ, Bool, true, false, cond, List, [], ◌∷◌, ◌++◌, map, Option, Some, None, refl, sym, ap, ◌∙◌}
use Rattle.std.specs.Cmp.{IsTotalOrder}
use Rattle.std.specs.List.{cons_option, filter, filter_map}
use Rattle.std.specs.Prelude.{is_none, option_to_list}
use Rattle.std.specs.Ordering.{is_eq}
use Rattle.std.specs.declared.cmp.Ordering.{Ordering}
use Rattle.std.specs.declared.cmp.Ordering.TheVariants.{Less, Equal, Greater}
use Rattle.std.proofs.lemmas.Cmp.{tied_back}
use Rattle.std.proofs.lemmas.List.{append-nil, map-append}
use Rattle.std.proofs.lemmas.List.Elements.{filter-append, filter_map-append}
use Rattle.sqz_changes.specs.declared.named.Named.{Named}
use Rattle.sqz_changes.specs.Named.{is_none_of, known, objects_of, only, single}

-- the only object, by what is kept
pub known-single : (objects : List ℕ) → known (single objects) ≡ only objects
known-single [] = refl
known-single (object ∷ []) = refl
known-single (first ∷ second ∷ rest) = refl

pub single-none : (objects : List ℕ) → is_none (single objects) ≡ is_none_of objects
single-none [] = refl
single-none (object ∷ []) = refl
single-none (first ∷ second ∷ rest) = refl

-- one more item of a list that is mapped, or filtered
pub filter_map-more : {X Y : Type 0} (h : X → Option Y) (xs : List X) (x : X) (r : Option Y) → h x ≡ r
    → filter_map h (xs ++ x ∷ []) ≡ filter_map h xs ++ option_to_list r
filter_map-more h xs x (Some y) e = filter_map-append h xs (x ∷ []) ∙ ap (λ (o : Option _). filter_map h xs ++ cons_option o []) e
filter_map-more h xs x None e = filter_map-append h xs (x ∷ []) ∙ ap (λ (o : Option _). filter_map h xs ++ cons_option o []) e

pub filter-more : {X : Type 0} (p : X → Bool) (xs : List X) (x : X) (b : Bool) → p x ≡ b
    → filter p (xs ++ x ∷ []) ≡ cond b (filter p xs ++ x ∷ []) (filter p xs)
filter-more {X} p xs x true e = filter-append p xs (x ∷ []) ∙ ap (λ (b : Bool). filter p xs ++ cond b (x ∷ []) []) e
filter-more {X} p xs x false e =
    filter-append p xs (x ∷ []) ∙ ap (λ (b : Bool). filter p xs ++ cond b (x ∷ []) []) e ∙ append-nil (filter p xs)

-- what is kept of a name after one more of its objects
abbrev pub with_object : ℕ → Option (Option ℕ) → Option ℕ
with_object object None = Some object
with_object object (Some known) = None

single-more : (objects : List ℕ) (object : ℕ) → single (objects ++ object ∷ []) ≡ Some (with_object object (single objects))
single-more [] object = refl
single-more (first ∷ []) object = refl
single-more (first ∷ second ∷ rest) object = refl

module _ {N : Type 0} (cmp : N → N → Ordering) where
  objects_of-append : (name : N) (xs ys : List (Named N)) → objects_of cmp name (xs ++ ys) ≡ objects_of cmp name xs ++ objects_of cmp name ys
  objects_of-append name xs ys =
      ap (map (λ (named : Named N). named.object)) (filter-append (λ (named : Named N). is_eq (cmp name named.name)) xs ys)
      ∙ map-append (λ (named : Named N). named.object) _ _

  objects_of-one : (name : N) (named : Named N) (b : Bool) → is_eq (cmp name named.name) ≡ b
      → objects_of cmp name (named ∷ []) ≡ cond b (named.object ∷ []) []
  objects_of-one name named b e = ap (λ (b : Bool). map (λ (named : Named N). named.object) (cond b (named ∷ []) [])) e ∙ by b
    where
      by : (b : Bool) → map (λ (named : Named N). named.object) (cond b (named ∷ []) []) ≡ cond b (named.object ∷ []) []
      by true = refl
      by false = refl

module _ {N : Type 0} (cmp : N → N → Ordering) (total : IsTotalOrder cmp) where
  -- equal names have the same objects
  pub objects_of-equal : (one other : N) (listed : List (Named N)) → cmp one other ≡ Equal → objects_of cmp one listed ≡ objects_of cmp other listed
  objects_of-equal one other listed e =
      ap (λ (test : Named N → Bool). map (λ (named : Named N). named.object) (filter test listed))
      (λ i named. is_eq (total.congr one other named.name e i))

  -- a name after one more object, by what is kept of the name of that object
  pub single-step : (listed : List (Named N)) (named : Named N) (name : N) (order : Ordering) → cmp named.name name ≡ order
      → single (objects_of cmp name (listed ++ named ∷ []))
      ≡ cond (is_eq order) (Some (with_object named.object (single (objects_of cmp named.name listed)))) (single (objects_of cmp name listed))
  single-step listed named name order e =
      ap single (objects_of-append cmp name listed (named ∷ [])) ∙ by order e
    where
      tied : (r o : Ordering) → cmp name named.name ≡ r → cmp named.name name ≡ o → is_eq o ≡ false → is_eq (cmp name named.name) ≡ false
      tied Less o e f miss = ap is_eq e
      tied Equal o e f miss = ap is_eq (e ∙ sym (tied_back total name named.name e) ∙ f) ∙ miss
      tied Greater o e f miss = ap is_eq e

      apart : (order : Ordering) → cmp named.name name ≡ order → is_eq order ≡ false
          → single (objects_of cmp name listed ++ objects_of cmp name (named ∷ []))
          ≡ cond (is_eq order) (Some (with_object named.object (single (objects_of cmp named.name listed)))) (single (objects_of cmp name listed))
      apart order e miss =
          ap (λ (objects : List ℕ). single (objects_of cmp name listed ++ objects)) (objects_of-one cmp name named false (tied (cmp name named.name) order refl e miss))
          ∙ ap single (append-nil (objects_of cmp name listed))
          ∙ ap (λ (b : Bool). cond b (Some (with_object named.object (single (objects_of cmp named.name listed)))) (single (objects_of cmp name listed))) (sym miss)

      by : (order : Ordering) → cmp named.name name ≡ order
          → single (objects_of cmp name listed ++ objects_of cmp name (named ∷ []))
          ≡ cond (is_eq order) (Some (with_object named.object (single (objects_of cmp named.name listed)))) (single (objects_of cmp name listed))
      by Equal e =
          ap (λ (objects : List ℕ). single (objects_of cmp name listed ++ objects)) (objects_of-one cmp name named true (ap is_eq (tied_back total named.name name e)))
          ∙ single-more (objects_of cmp name listed) named.object
          ∙ ap (λ (objects : List ℕ). Some (with_object named.object (single objects))) (sym (objects_of-equal named.name name listed e))
      by Less e = apart Less e refl
      by Greater e = apart Greater e refl
