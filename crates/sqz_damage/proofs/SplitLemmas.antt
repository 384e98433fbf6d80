-- Objects before which words were lost.
-- Serves `split`.
use Rattle.std.proofs.Common.{◌≡◌, ℕ, suc, ◌+◌, ◌<◌, ◌≤◌, true, false, List, [], ◌∷◌, length, drop, get_or}
use Rattle.std.proofs.Common.{sym, ap, ◌∙◌, arith, inl, inr}
use Rattle.std.specs.Prelude.{if◌then◌else◌}
use Rattle.std.proofs.lemmas.Bool.{cases_lt}
use Rattle.std.proofs.lemmas.List.{drop_all, drop_more}
use Rattle.sqz_damage.specs.declared.fit.Fit.{Fit}
use Rattle.sqz_damage.specs.declared.split.Split.{Split}
use Rattle.sqz_damage.specs.Counting.{IsSplit}
use Rattle.sqz_damage.specs.Losses.{staying, moving}

-- no more objects fit than there are
pub staying-le : (fits : List Fit) → staying fits ≤ length fits
staying-le [] = omega arith
staying-le (fit ∷ fits) =
    let rest = staying-le fits in
    elim fit.stays as (λ b. (if b then 1 else 0) + staying fits ≤ suc (length fits)) [ true ↦ omega arith | false ↦ omega arith ]

pub moving-le : (fits : List Fit) → moving fits ≤ length fits
moving-le [] = omega arith
moving-le (fit ∷ fits) =
    let rest = moving-le fits in
    elim fit.moves as (λ b. (if b then 1 else 0) + moving fits ≤ suc (length fits)) [ true ↦ omega arith | false ↦ omega arith ]

-- ---- one object earlier

staying-drop : (fits : List Fit) (k : ℕ) (none : Fit) → k < length fits
    → staying (drop k fits) ≡ (if (get_or fits k none).stays then 1 else 0) + staying (drop (k + 1) fits)
staying-drop fits k none lt = ap staying (drop_more fits k none lt)

moving-drop : (fits : List Fit) (k : ℕ) (none : Fit) → k < length fits
    → moving (drop k fits) ≡ (if (get_or fits k none).moves then 1 else 0) + moving (drop (k + 1) fits)
moving-drop fits k none lt = ap moving (drop_more fits k none lt)

pub IsSplit-before : (fits : List Fit) (split : Split) (k : ℕ) (none : Fit) (stays moves : ℕ) → IsSplit fits split
    → k + 1 ≡ split.at
    → stays ≡ split.stays + (if (get_or fits k none).stays then 1 else 0)
    → moves ≡ split.moves + (if (get_or fits k none).moves then 1 else 0)
    → IsSplit fits (record { at = k; stays = stays; moves = moves })
IsSplit-before fits split k none stays moves is next stays_is moves_is =
    let inside = is.inside in
    let lt : k < length fits = omega arith in
    record {
      inside = omega arith;
      stays_are = omega (arith, is.stays_are, staying-drop fits k none lt, ap (λ (n : ℕ). staying (drop n fits)) next);
      moves_are = omega (arith, is.moves_are, moving-drop fits k none lt, ap (λ (n : ℕ). moving (drop n fits)) next);
    }

-- ---- the best place so far

-- the best place among those from `k` on
pub record IsBestFrom (fits : List Fit) (k : ℕ) (best : Split) : Type 0 where
  pub is_split : IsSplit fits best
  pub low : k ≤ best.at
  pub most : (j : ℕ) → k ≤ j → j ≤ length fits
      → moving (drop j fits) + staying (drop best.at fits) ≤ moving (drop best.at fits) + staying (drop j fits)
  pub last : (j : ℕ) → best.at < j → j ≤ length fits
      → moving (drop j fits) + staying (drop best.at fits) < moving (drop best.at fits) + staying (drop j fits)

module _ (fits : List Fit) where
  pub IsBestFrom-end : (end : Split) → end.at ≡ length fits → end.stays ≡ 0 → end.moves ≡ 0 → IsBestFrom fits end.at end
  IsBestFrom-end end at stays moves =
      let none : drop end.at fits ≡ [] = drop_all end.at fits (omega arith) in
      record {
        is_split =
            record {
              inside = omega arith;
              stays_are = stays ∙ sym (ap staying none);
              moves_are = moves ∙ sym (ap moving none);
            };
        low = omega arith;
        most = λ j low high. let same : j ≡ end.at = omega arith in rw same (omega arith);
        last = λ j low high. absurd (omega arith);
      }

  module _ (best split : Split) (so_far : IsBestFrom fits (split.at + 1) best) (is : IsSplit fits split) where
    pub IsBestFrom-better : best.moves + split.stays < split.moves + best.stays → IsBestFrom fits split.at split
    IsBestFrom-better better =
        let more : moving (drop best.at fits) + staying (drop split.at fits) < moving (drop split.at fits) + staying (drop best.at fits) =
        omega (arith, so_far.is_split.stays_are, so_far.is_split.moves_are, is.stays_are, is.moves_are) in
        record {
          is_split = is;
          low = omega arith;
          most = λ j low high.
              elim (cases_lt split.at j) [
                | inl later ↦ omega (arith, so_far.most j (omega arith) high)
                | inr here ↦ let same : j ≡ split.at = omega arith in rw same (omega arith)
              ];
          last = λ j low high. omega (arith, so_far.most j (omega arith) high);
        }

    pub IsBestFrom-stays : (best.moves + split.stays < split.moves + best.stays → ⊥) → IsBestFrom fits split.at best
    IsBestFrom-stays no_better =
        let no_more : moving (drop split.at fits) + staying (drop best.at fits) ≤ moving (drop best.at fits) + staying (drop split.at fits) =
        omega (arith, so_far.is_split.stays_are, so_far.is_split.moves_are, is.stays_are, is.moves_are) in
        record {
          is_split = so_far.is_split;
          low = let low = so_far.low in omega arith;
          most = λ j low high.
              elim (cases_lt split.at j) [
                | inl later ↦ so_far.most j (omega arith) high
                | inr here ↦ let same : j ≡ split.at = omega arith in rw same no_more
              ];
          last = so_far.last;
        }
