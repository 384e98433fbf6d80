-- The first place in a list whose item passes a test.
-- Serves `elements`, and `CategoryLemmas`.
use Rattle.std.proofs.Common.{◌≡◌, ◌∙◌, ℕ, ◌<◌, Bool, true, false, List, length, get_or, cond, ap, refl, sym, arith}
use Rattle.std.specs.Prelude.{nat_lt, Option, Some, None, position}
use Rattle.std.specs.List.{position_or_len}
use Rattle.std.proofs.lemmas.Bool.{cond_above, cond_below}
use Rattle.std.proofs.lemmas.List.Sums.{position_or_len_is}

module _ {X : Type 0} (p : X → Bool) (xs : List X) (d : X) where
  placed_by : ℕ → Option ℕ
  placed_by first = cond (nat_lt first (length xs)) (Some first) None

  -- the first item that passes is here
  pub position-found : (i : ℕ) → i < length xs → ((k : ℕ) → k < i → p (get_or xs k d) ≡ false) → p (get_or xs i d) ≡ true
      → Some i ≡ position p xs
  unfolding placed_by
  position-found i inside below here =
      let first : position_or_len p xs ≡ i = position_or_len_is p xs i d (omega arith) below (λ lt. here) in
      cond_below i (length xs) (Some i) None inside ∙ ap placed_by (sym first)

  -- no item passes
  pub position-none : ((k : ℕ) → k < length xs → p (get_or xs k d) ≡ false) → None ≡ position p xs
  unfolding placed_by
  position-none never =
      let first : position_or_len p xs ≡ length xs =
      position_or_len_is p xs (length xs) d (omega arith) never (λ lt. absurd (omega (arith, lt)))
      in
      cond_above (length xs) (length xs) (Some (length xs)) None None (omega arith) refl ∙ ap placed_by (sym first)
