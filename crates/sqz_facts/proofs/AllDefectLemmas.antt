-- The first of all defects.
-- Serves `laws::first_of_all_defects`; `FindingLemmas` of `sqz_answers`.
use Rattle.std.proofs.Common.{◌≡◌, ◌-◌, ℕ, Bool, List, [], ◌∷◌, length, map, Option, Some, None, refl, sym, ap, ◌∙◌, arith}
use Rattle.std.specs.List.{filter_map, range_with_len}
use Rattle.sqz_image.specs.Objects.{Memory, object_count}
use Rattle.sqz_trace.specs.declared.weak.Weak.{Weak}
use Rattle.sqz_trace.specs.Defects.{first_some, first_defect}
use Rattle.sqz_trace.specs.Ranges.{defect_at}
use Rattle.sqz_trace.proofs.FirstDefectLemmas.{first_defect-between}
use Rattle.sqz_facts.specs.AllDefects.{defects, first_of}

-- the first element that a list of options has
first_of-filter_map : {X Y : Type 0} (f : X → Option Y) (xs : List X) → first_of (filter_map f xs) ≡ first_some (map f xs)
first_of-filter_map f [] = refl
first_of-filter_map f (x ∷ xs) = by_first (f x) refl (first_of-filter_map f xs)
  where
    by_first : (y : _) → f x ≡ y → first_of (filter_map f xs) ≡ first_some (map f xs)
        → first_of (filter_map f (x ∷ xs)) ≡ first_some (map f (x ∷ xs))
    by_first None none rest = rw none rest
    by_first (Some y) some rest = rw some refl

-- the first of all defects is that of the lowest marked object that has one
pub first_of-defects : (memory : Memory) (weak : Weak) (marks : List Bool) → length marks ≡ object_count memory
    → first_of (defects memory weak marks) ≡ first_defect memory weak marks
first_of-defects memory weak marks sized =
    let report = defect_at memory weak marks in
    let whole : object_count memory - 0 ≡ object_count memory = omega arith in
    first_of-filter_map report (range_with_len 0 (object_count memory))
    ∙ sym (ap (λ (count : ℕ). first_some (map report (range_with_len 0 count))) whole)
    ∙ first_defect-between memory weak marks sized
