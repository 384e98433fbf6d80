-- Lists that grow item by item.
-- Serves `mentions`, `picking` and `unimplemented`.
use Rattle.std.proofs.Common.{◌≡◌, ℕ, ◌+◌, ◌<◌, List, [], ◌∷◌, ◌++◌, length, take, get_or, Option, Some, None, refl, sym, ap, subst, ◌∙◌}
use Rattle.std.specs.List.{filter_map, cons_option}
use Rattle.std.proofs.lemmas.List.{append_assoc, append-nil, take_more}
use Rattle.std.proofs.lemmas.List.Elements.{filter_map-append}
use Rattle.sqz_code.specs.Joins.{AreJoined}

module _ {X Y : Type 0} (f : X → Option Y) (xs : List X) (x : X) where
  -- one more item that gives something, and one that gives nothing
  pub filter_map-some : (y : Y) → f x ≡ Some y → filter_map f (xs ++ x ∷ []) ≡ filter_map f xs ++ y ∷ []
  filter_map-some y is = filter_map-append f xs (x ∷ []) ∙ ap (λ (found : Option Y). filter_map f xs ++ cons_option found []) is

  pub filter_map-none : f x ≡ None → filter_map f (xs ++ x ∷ []) ≡ filter_map f xs
  filter_map-none is =
      filter_map-append f xs (x ∷ []) ∙ ap (λ (found : Option Y). filter_map f xs ++ cons_option found []) is ∙ append-nil (filter_map f xs)

module _ {X Y : Type 0} (IsOf : X → List Y → Type 0) (x : X) (its : List Y) (is : IsOf x its) where
  -- the list of one more item
  pub AreJoined-push : (xs : List X) (joined : List Y) → AreJoined IsOf xs joined → AreJoined IsOf (xs ++ x ∷ []) (joined ++ its)
  AreJoined-push [] joined are = (its, is, ([], ap (λ (l : List Y). l ++ its) are ∙ sym (append-nil its), refl))
  AreJoined-push (y ∷ xs) joined (first, is_first, (rest, same, are)) =
      (first, is_first, (rest ++ its, ap (λ (l : List Y). l ++ its) same ∙ append_assoc first rest its, AreJoined-push xs rest are))

module _ {X Y : Type 0} (f : X → Option Y) (xs : List X) (i : ℕ) (d : X) (inside : i < length xs) where
  -- the same of the first items of a list
  pub filter_map-take-some : (y : Y) → f (get_or xs i d) ≡ Some y → filter_map f (take (i + 1) xs) ≡ filter_map f (take i xs) ++ y ∷ []
  filter_map-take-some y is = ap (filter_map f) (take_more xs i d inside) ∙ filter_map-some f (take i xs) (get_or xs i d) y is

  pub filter_map-take-none : f (get_or xs i d) ≡ None → filter_map f (take (i + 1) xs) ≡ filter_map f (take i xs)
  filter_map-take-none is = ap (filter_map f) (take_more xs i d inside) ∙ filter_map-none f (take i xs) (get_or xs i d) is

pub AreJoined-take-push : {X Y : Type 0} (IsOf : X → List Y → Type 0) (xs : List X) (i : ℕ) (d : X) → i < length xs
    → (its joined : List Y) → IsOf (get_or xs i d) its → AreJoined IsOf (take i xs) joined → AreJoined IsOf (take (i + 1) xs) (joined ++ its)
AreJoined-take-push {X} {Y} IsOf xs i d inside its joined is are =
    subst (λ (l : List X). AreJoined IsOf l (joined ++ its)) (sym (take_more xs i d inside))
    (AreJoined-push IsOf (get_or xs i d) its is (take i xs) joined are)
