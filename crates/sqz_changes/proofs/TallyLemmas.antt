-- One more difference of an owner.
-- Serves the methods of `Tally`.
use Rattle.std.proofs.Common.{◌≡◌, ◌≢◌, ℕ, zero, suc, ◌+◌, ◌<◌, ◌≤◌, ◌^◌, Bool, true, false, cond, eqb, List, [], ◌∷◌, ◌++◌, length, set, replicate, get_or}
use Rattle.std.proofs.Common.{Option, Some, None, refl, sym, ap, subst, ◌∙◌, arith}
use Rattle.std.proofs.lemmas.Bool.{eq-eqb, eqb-true}
use Rattle.std.proofs.lemmas.Option.{same_Some, none-some}
use Rattle.std.proofs.lemmas.List.{get_or-set_same, get_or-set_other, get_or_append_left, length-append, length-set, length-replicate}
use Rattle.std.proofs.Math.Seq.{get_or-append_seam}
use Rattle.sqz_alike.specs.Matching.{single_count}
use Rattle.sqz_changes.specs.declared.change.Change.{Change}
use Rattle.sqz_changes.specs.declared.place.Difference.{Difference}
use Rattle.sqz_changes.specs.declared.place.Place.TheVariants.{Header}
use Rattle.sqz_changes.specs.Changes.{with_difference}
use Rattle.sqz_changes.specs.Tally.{IsTally, counted, owner_at, row_of}

abbrev pub no_change : Change
no_change = record { owner = 0; first = record { pair = 0; place = Header }; count = 0 }

abbrev pub one_more : Change → Change
one_more change = record change { count = change.count + 1 }

-- ---- rows

single_count-set : (rows : List (Option ℕ)) (i row : ℕ) → i < length rows → row_of rows i ≡ None
    → single_count (set rows i (Some row)) + 1 ≡ single_count rows
single_count-set [] i row lt e = absurd (omega arith)
single_count-set (None ∷ rows) zero row lt e = omega arith
single_count-set (Some other ∷ rows) zero row lt e = absurd cc
single_count-set (None ∷ rows) (suc i) row lt e =
    let rest = single_count-set rows i row (omega arith) e in
    omega (arith, rest)
single_count-set (Some other ∷ rows) (suc i) row lt e = single_count-set rows i row (omega arith) e

single_count-none : (count : ℕ) → single_count (replicate count None) ≡ count
single_count-none zero = refl
single_count-none (suc count) = ap suc (single_count-none count)

row_of-none : (count owner : ℕ) → row_of (replicate count None) owner ≡ None
row_of-none zero owner = refl
row_of-none (suc count) zero = refl
row_of-none (suc count) (suc owner) = row_of-none count owner

pub IsTally-none : (owners : ℕ) → owners < 2 ^ 32 → IsTally owners [] (replicate owners None)
IsTally-none owners bounded =
    let none : Option ℕ = None in
    record {
      sized = length-replicate owners none;
      bounded = bounded;
      by_owner = λ owner row e. absurd (none-some row (sym (row_of-none owners owner) ∙ e));
      by_row = λ row lt. absurd (omega (arith, lt));
      few = omega (arith, single_count-none owners, length-replicate owners none);
    }

-- ---- changes

-- the change of an owner counts one more
pub with_difference-set : (changes : List Change) (owner : ℕ) (difference : Difference) (row : ℕ) → row < length changes
    → owner_at changes row ≡ owner → ((k : ℕ) → k < row → owner_at changes k ≡ owner → ⊥)
    → with_difference owner difference changes ≡ set changes row (one_more (get_or changes row no_change))
with_difference-set [] owner difference row lt e others = absurd (omega arith)
with_difference-set (change ∷ changes) owner difference zero lt e others =
    ap (λ (b : Bool). cond b (one_more change ∷ changes) (change ∷ with_difference owner difference changes)) (eq-eqb change.owner owner e)
with_difference-set (change ∷ changes) owner difference (suc row) lt e others =
    ap (λ (b : Bool). cond b (one_more change ∷ changes) (change ∷ with_difference owner difference changes))
    (apart (eqb change.owner owner) refl)
    ∙ ap (λ (rest : List Change). change ∷ rest)
    (with_difference-set changes owner difference row (omega arith) e (λ k before. others (suc k) (omega (arith, before))))
  where
    apart : (b : Bool) → eqb change.owner owner ≡ b → b ≡ false
    apart true e = absurd (others zero (omega arith) (eqb-true change.owner owner e))
    apart false e = refl

-- an owner without a change begins one
pub with_difference-new : (changes : List Change) (owner : ℕ) (difference : Difference)
    → ((k : ℕ) → k < length changes → owner_at changes k ≡ owner → ⊥)
    → with_difference owner difference changes ≡ changes ++ record { owner = owner; first = difference; count = 1 } ∷ []
with_difference-new [] owner difference others = refl
with_difference-new (change ∷ changes) owner difference others =
    ap (λ (b : Bool). cond b (one_more change ∷ changes) (change ∷ with_difference owner difference changes))
    (apart (eqb change.owner owner) refl)
    ∙ ap (λ (rest : List Change). change ∷ rest)
    (with_difference-new changes owner difference (λ k lt. others (suc k) (omega (arith, lt))))
  where
    apart : (b : Bool) → eqb change.owner owner ≡ b → b ≡ false
    apart true e = absurd (others zero (omega arith) (eqb-true change.owner owner e))
    apart false e = refl

-- ---- counts

pub counted-with : (owner : ℕ) (difference : Difference) (changes : List Change)
    → counted (with_difference owner difference changes) ≡ counted changes + 1
counted-with owner difference [] = refl
counted-with owner difference (change ∷ changes) = by (eqb change.owner owner) (counted-with owner difference changes)
  where
    by : (b : Bool) → counted (with_difference owner difference changes) ≡ counted changes + 1
        → counted (cond b (one_more change ∷ changes) (change ∷ with_difference owner difference changes)) ≡ counted (change ∷ changes) + 1
    by true e = omega arith
    by false e = omega (arith, e)

-- no change has more differences than there are
pub count-counted : (changes : List Change) (row : ℕ) → row < length changes → (get_or changes row no_change).count ≤ counted changes
count-counted [] row lt = absurd (omega arith)
count-counted (change ∷ changes) zero lt = omega arith
count-counted (change ∷ changes) (suc row) lt =
    let rest = count-counted changes row (omega arith) in
    omega (arith, rest)

-- ---- tallies

module _ (owners : ℕ) (changes : List Change) (rows : List (Option ℕ)) (tally : IsTally owners changes rows) where
  -- the change at the row of an owner is the only one
  pub no_other : (owner row : ℕ) → row_of rows owner ≡ Some row → (k : ℕ) → k < row → owner_at changes k ≡ owner → ⊥
  no_other owner row e k before same =
      let found = tally.by_owner owner row e in
      let again = sym (tally.by_row k (omega (arith, found.0, before))) ∙ ap (row_of rows) same ∙ e in
      let equal : k ≡ row = same_Some k row again in
      omega (arith, equal, before)

  -- no change has an owner without a row
  pub no_change_of : (owner : ℕ) → row_of rows owner ≡ None → (k : ℕ) → k < length changes → owner_at changes k ≡ owner → ⊥
  no_change_of owner e k lt same = none-some k (sym e ∙ sym (ap (row_of rows) same) ∙ tally.by_row k lt)

  module _ (row : ℕ) (change : Change) (lt : row < length changes) (same : change.owner ≡ owner_at changes row) where
    owner_at-set : (k : ℕ) → owner_at (set changes row change) k ≡ owner_at changes k
    owner_at-set k = by (eqb row k) refl
      where
        by : (b : Bool) → eqb row k ≡ b → owner_at (set changes row change) k ≡ owner_at changes k
        by true e =
            let here : row ≡ k = eqb-true row k e in
            subst (λ (n : ℕ). owner_at (set changes row change) n ≡ owner_at changes n) here
            (ap (λ (c : Change). c.owner) (get_or-set_same changes row change no_change lt) ∙ same)
        by false e =
            ap (λ (c : Change). c.owner)
            (get_or-set_other changes row k change no_change (λ here. absurd (true-false (sym (eq-eqb row k (sym here)) ∙ e))))
          where
            true-false : true ≡ false → ⊥
            true-false e = cc

    -- a change in place of one with the same owner
    pub IsTally-set : IsTally owners (set changes row change) rows
    IsTally-set = record {
      sized = tally.sized;
      bounded = tally.bounded;
      by_owner = λ owner k e.
          let found = tally.by_owner owner k e in
          (omega (arith, found.0, length-set changes row change), owner_at-set k ∙ found.1);
      by_row = λ k within.
          ap (row_of rows) (owner_at-set k) ∙ tally.by_row k (omega (arith, within, length-set changes row change));
      few = omega (arith, tally.few, length-set changes row change);
    }

  module _ (owner : ℕ) (change : Change) (inside : owner < length rows) (free : row_of rows owner ≡ None) (same : change.owner ≡ owner) where
    abbrev more : List Change
    more = changes ++ change ∷ []

    owner_at-old : (k : ℕ) → k < length changes → owner_at more k ≡ owner_at changes k
    owner_at-old k lt = ap (λ (c : Change). c.owner) (get_or_append_left changes (change ∷ []) no_change k lt)

    owner_at-new : owner_at more (length changes) ≡ owner
    owner_at-new = ap (λ (c : Change). c.owner) (get_or-append_seam changes change [] no_change) ∙ same

    row_of-same : row_of (set rows owner (Some (length changes))) owner ≡ Some (length changes)
    row_of-same = get_or-set_same rows owner (Some (length changes)) None inside

    row_of-other : (other : ℕ) → (other ≡ owner → ⊥) → row_of (set rows owner (Some (length changes))) other ≡ row_of rows other
    row_of-other other apart = get_or-set_other rows owner other (Some (length changes)) None apart

    -- a new change at the end
    pub IsTally-push : IsTally owners more (set rows owner (Some (length changes)))
    IsTally-push = record {
      sized = length-set rows owner (Some (length changes)) ∙ tally.sized;
      bounded = tally.bounded;
      by_owner = λ one row e. owned one row e (eqb one owner) refl;
      by_row = λ row lt. placed row lt (eqb row (length changes)) refl;
      few = omega (
        arith,
        tally.few,
        length-append changes (change ∷ []),
        length-set rows owner (Some (length changes)),
        single_count-set rows owner (length changes) inside free,
      );
    }
      where
        owned : (one row : ℕ) → row_of (set rows owner (Some (length changes))) one ≡ Some row → (b : Bool) → eqb one owner ≡ b
            → (row < length more) × (owner_at more row ≡ one)
        owned one row e true here =
            let at : one ≡ owner = eqb-true one owner here in
            let is_last : row ≡ length changes = same_Some row (length changes) (sym e ∙ ap (row_of (set rows owner (Some (length changes)))) at ∙ row_of-same) in
            (omega (arith, is_last, length-append changes (change ∷ [])), ap (owner_at more) is_last ∙ owner_at-new ∙ sym at)
        owned one row e false apart =
            let found = tally.by_owner one row (sym (row_of-other one (λ at. true-false (sym (eq-eqb one owner at) ∙ apart))) ∙ e) in
            (omega (arith, found.0, length-append changes (change ∷ [])), owner_at-old row found.0 ∙ found.1)
          where
            true-false : true ≡ false → ⊥
            true-false e = cc

        placed : (row : ℕ) → row < length more → (b : Bool) → eqb row (length changes) ≡ b
            → row_of (set rows owner (Some (length changes))) (owner_at more row) ≡ Some row
        placed row lt true here =
            let at : row ≡ length changes = eqb-true row (length changes) here in
            ap (row_of (set rows owner (Some (length changes)))) (ap (owner_at more) at ∙ owner_at-new) ∙ row_of-same ∙ ap Some (sym at)
        placed row lt false apart =
            let before : row < length changes = before_last (eqb row (length changes)) refl in
            ap (row_of (set rows owner (Some (length changes)))) (owner_at-old row before)
            ∙ row_of-other (owner_at changes row) (λ at. no_change_of owner free row before at)
            ∙ tally.by_row row before
          where
            true-false : true ≡ false → ⊥
            true-false e = cc

            before_last : (b : Bool) → eqb row (length changes) ≡ b → row < length changes
            before_last true e = absurd (true-false (sym e ∙ apart))
            before_last false e =
                let ne : row ≢ length changes = λ at. true-false (sym (eq-eqb row (length changes) at) ∙ e) in
                omega (arith, ne, lt, length-append changes (change ∷ []))
