-- The first defect of all objects, from the first defects of ranges of them.
-- Serves `lowest_defect::defect_in` and `lowest_defect::first_defect`.
use Rattle.std.proofs.Common.{◌≡◌, ℕ, zero, suc, ◌+◌, ◌-◌, ◌*◌, ◌<◌, ◌≤◌, min, Bool, true, false, cond, List, [], ◌∷◌}
use Rattle.std.proofs.Common.{◌++◌, map, length, Option, Some, None, refl, sym, ap, ◌∙◌, arith, inl, inr}
use Rattle.std.specs.Prelude.{slice_index_or, is_some}
use Rattle.std.specs.Option.{option_or}
use Rattle.std.specs.Int.{div_ceil}
use Rattle.std.specs.List.{range_with_len}
use Rattle.std.proofs.lemmas.Bool.{cases_lt}
use Rattle.rayon.specs.Lists.{Reduces}
use Rattle.rayon.proofs.Reducing.{Reduces-elim}
use Rattle.sqz_image.specs.Objects.{Memory, object_count, objects, object_at}
use Rattle.sqz_trace.specs.declared.weak.Weak.{Weak}
use Rattle.sqz_trace.specs.Graph.{is_marked}
use Rattle.sqz_trace.specs.Live.{marked}
use Rattle.sqz_trace.specs.Defects.{defect, first_some, first_defect}
use Rattle.sqz_trace.specs.Ranges.{defect_at, first_between, first_in_range}

-- ---- the first of a list

pub first_some-append : {X : Type 0} (xs ys : List (Option X))
    → first_some (xs ++ ys) ≡ option_or (first_some xs) (first_some ys)
first_some-append [] ys = refl
first_some-append (None ∷ xs) ys = first_some-append xs ys
first_some-append ((Some x) ∷ xs) ys = refl

first_some-cons : {X : Type 0} (x : Option X) (xs : List (Option X)) → first_some (x ∷ xs) ≡ option_or x (first_some xs)
first_some-cons None xs = refl
first_some-cons (Some x) xs = refl

option_or-none : {X : Type 0} (x : Option X) → option_or x None ≡ x
option_or-none None = refl
option_or-none (Some x) = refl

option_or-some : {X : Type 0} (x y : Option X) → is_some x ≡ true → option_or x y ≡ x
option_or-some None y is = absurd cc
option_or-some (Some x) y is = refl

-- one more in front
first_some-more : {X : Type 0} (x : Option X) (all first : List (Option X)) (second : Option X)
    → first_some all ≡ option_or (first_some first) second
    → first_some (x ∷ all) ≡ option_or (first_some (x ∷ first)) second
first_some-more None all first second e = e
first_some-more (Some x) all first second e = refl

first_some-one : {X : Type 0} (x : Option X) → first_some (x ∷ []) ≡ x
first_some-one None = refl
first_some-one (Some x) = refl

-- the pieces of a list, reduced by taking the first that there is
pub first_some-reduced : {X : Type 0} (xs : List (Option X)) (r : Option X)
    → Reduces (λ e. e ≡ None) (λ a b s. s ≡ option_or a b) xs r → r ≡ first_some xs
first_some-reduced {X} xs r h =
    Reduces-elim (λ e. e ≡ None) (λ a b s. s ≡ option_or a b) (λ (ys : List (Option X)) (s : Option X). s ≡ first_some ys)
    (λ e none. none)
    (λ ys a x s before step.
    joined ys (x ∷ []) a x s before (sym (first_some-one x)) step)
    joined xs r h
  where
    joined : (ys zs : List (Option X)) (a b s : Option X)
        → a ≡ first_some ys → b ≡ first_some zs → s ≡ option_or a b → s ≡ first_some (ys ++ zs)
    joined ys zs a b s left right step =
        step ∙ ap (λ first. option_or first b) left ∙ ap (option_or (first_some ys)) right
        ∙ sym (first_some-append ys zs)

-- ---- the first report of a range

module _ {X : Type 0} (report : ℕ → Option X) where
  split_at : (m n from mid total : ℕ) → mid ≡ from + m → total ≡ m + n
      → first_some (map report (range_with_len from total))
      ≡ option_or (first_some (map report (range_with_len from m))) (first_some (map report (range_with_len mid n)))
  split_at zero n from mid total is_mid is_total =
      let same_mid : mid ≡ from = omega arith in
      let same_total : total ≡ n = omega arith in
      rw (same_mid, same_total) refl
  split_at (suc m) n from mid zero is_mid is_total = absurd (omega arith)
  split_at (suc m) n from mid (suc total) is_mid is_total =
      let rest = split_at m n (from + 1) mid total (omega arith) (omega arith) in
      first_some-more (report from) _ _ _ rest

  -- a range is one part of it, and then the other
  first_between-split : (from mid to : ℕ) → from ≤ mid → mid ≤ to
      → first_between report from to ≡ option_or (first_between report from mid) (first_between report mid to)
  first_between-split from mid to low high =
      split_at (mid - from) (to - mid) from mid (to - from) (omega arith) (omega arith)

  pub first_between-none : (from to : ℕ) → to ≤ from → first_between report from to ≡ None
  first_between-none from to le = let none : to - from ≡ 0 = omega arith in rw none refl

  first_between-first : (from to : ℕ) → from < to
      → first_between report from to ≡ option_or (report from) (first_between report (from + 1) to)
  first_between-first from to lt =
      let more : to - from ≡ suc (to - (from + 1)) = omega arith in
      rw more (first_some-cons (report from) _)

  -- where there is nothing to report of the first index, the report is that of the others
  pub first_between-next : (from to : ℕ) → from < to → report from ≡ None
      → first_between report from to ≡ first_between report (from + 1) to
  first_between-next from to lt none =
      first_between-first from to lt ∙ ap (λ first. option_or first (first_between report (from + 1) to)) none

  -- and otherwise it is that of the first index
  pub first_between-found : (from to : ℕ)
      → from < to → is_some (report from) ≡ true → first_between report from to ≡ report from
  first_between-found from to lt found = first_between-first from to lt ∙ option_or-some (report from) _ found

  module _ (width count : ℕ) where
    -- ranges one after the other, up to the count
    pub first_between-ranges : (n range : ℕ) → count ≤ (range + n) * width
        → first_some (map (first_in_range report width count) (range_with_len range n))
        ≡ first_between report (range * width) count
    first_between-ranges zero range le = sym (first_between-none (range * width) count (omega arith))
    first_between-ranges (suc n) range le =
        let first = first_in_range report width count range in
        first_some-cons first _
        ∙ ap (option_or first) (first_between-ranges n (range + 1) (omega arith))
        ∙ elim (cases_lt count (range * width + width)) [
          | inl last ↦
              let end : min (range * width + width) count ≡ count = omega arith in
              ap (option_or first) (first_between-none ((range + 1) * width) count (omega arith))
              ∙ option_or-none first
              ∙ ap (first_between report (range * width)) end
          | inr full ↦
              let end : min (range * width + width) count ≡ (range + 1) * width = omega arith in
              let others = first_between report ((range + 1) * width) count in
              ap (λ to. option_or (first_between report (range * width) to) others) end
              ∙ sym (first_between-split (range * width) ((range + 1) * width) count (omega arith) (omega arith))
        ]

-- ---- the marked elements of a list

map-shift : {Y : Type 0} (f : ℕ → Y) (n from : ℕ)
    → map f (range_with_len (suc from) n) ≡ map (λ i. f (suc i)) (range_with_len from n)
map-shift f zero from = refl
map-shift f (suc n) from =
    let turned : suc from + 1 ≡ suc (from + 1) = omega arith in
    ap (λ rest. f (suc from) ∷ rest) (ap (λ k. map f (range_with_len k n)) turned ∙ map-shift f n (from + 1))

module _ {X Y : Type 0} (f : X → Option Y) (default : X) where
  -- what there is to report of the element with an index, if it is marked
  abbrev marked_at : List Bool → List X → ℕ → Option Y
  marked_at marks xs index = cond (is_marked marks index) (f (slice_index_or xs index default)) None

  first_some-marked : (marks : List Bool) (xs : List X) → length marks ≡ length xs
      → first_some (map (marked_at marks xs) (range_with_len 0 (length xs))) ≡ first_some (map f (marked marks xs))
  first_some-marked [] [] same = refl
  first_some-marked [] (x ∷ xs) same = absurd (omega arith)
  first_some-marked (mark ∷ marks) [] same = absurd (omega arith)
  first_some-marked (true ∷ marks) (x ∷ xs) same =
      ap (λ rest. first_some (f x ∷ rest)) (map-shift (marked_at (true ∷ marks) (x ∷ xs)) (length xs) 0)
      ∙ first_some-cons (f x) (map (marked_at marks xs) (range_with_len 0 (length xs)))
      ∙ ap (option_or (f x)) (first_some-marked marks xs (omega arith))
      ∙ sym (first_some-cons (f x) (map f (marked marks xs)))
  first_some-marked (false ∷ marks) (x ∷ xs) same =
      ap first_some (map-shift (marked_at (false ∷ marks) (x ∷ xs)) (length xs) 0)
      ∙ first_some-marked marks xs (omega arith)

-- what is reported of all objects is the first defect
pub first_defect-between : (memory : Memory) (weak : Weak) (marks : List Bool) → length marks ≡ object_count memory
    → first_between (defect_at memory weak marks) 0 (object_count memory) ≡ first_defect memory weak marks
first_defect-between memory weak marks same =
    let whole : object_count memory - 0 ≡ object_count memory = omega arith in
    ap (λ count. first_some (map (defect_at memory weak marks) (range_with_len 0 count))) whole
    ∙ first_some-marked (defect memory weak) record { first = 0; chunk = [] } marks (objects memory) same

-- of a marked object its defect is reported, and of another nothing
pub defect_at-marked : (memory : Memory) (weak : Weak) (marks : List Bool) (index : ℕ) → is_marked marks index ≡ true
    → defect_at memory weak marks index ≡ defect memory weak (object_at memory index)
defect_at-marked memory weak marks index e = ap (λ b. cond b (defect memory weak (object_at memory index)) None) e

pub defect_at-unmarked : (memory : Memory) (weak : Weak) (marks : List Bool) (index : ℕ) → is_marked marks index ≡ false
    → defect_at memory weak marks index ≡ None
defect_at-unmarked memory weak marks index e = ap (λ b. cond b (defect memory weak (object_at memory index)) None) e

pub none_found : {X : Type 0} (x : Option X) → is_some x ≡ false → x ≡ None
none_found None e = refl
none_found (Some x) e = absurd cc

-- ---- the numbers of the ranges

-- each range begins at an object
pub range_begins : (count range : ℕ) → range < div_ceil count 4096 → range * 4096 < count
range_begins count range lt = omega arith

-- and together they reach the last one
ranges_reach : (count : ℕ) → count ≤ (0 + div_ceil count 4096) * 4096
ranges_reach count = omega arith

-- the first report of all ranges is the first defect
pub first_defect-ranges : (memory : Memory) (weak : Weak) (marks : List Bool) → length marks ≡ object_count memory
    → let count = object_count memory in
    first_some (map (first_in_range (defect_at memory weak marks) 4096 count) (range_with_len 0 (div_ceil count 4096)))
    ≡ first_defect memory weak marks
first_defect-ranges memory weak marks same =
    let count = object_count memory in
    first_between-ranges (defect_at memory weak marks) 4096 count (div_ceil count 4096) 0 (ranges_reach count)
    ∙ first_defect-between memory weak marks same
