-- Sums along lists of object indexes, in any order, are sums over the indexes below the number of
-- objects.
-- Serves `KeptLemmas` and `WonLemmas` of `sqz_marks`; `RemainingLemmas` of `sqz_workers`.
use Rattle.std.proofs.Common.{◌≡◌, ◌≢◌, ℕ, zero, suc, ◌+◌, ◌*◌, ◌<◌, ◌≤◌, Bool, true, false, cond, eqb, List, [], ◌∷◌}
use Rattle.std.proofs.Common.{filter, length, get_or, refl, sym, ap, ◌∙◌, arith, inl, inr}
use Rattle.std.specs.List.{concat, count_by, sum_by}
use Rattle.std.specs.Prelude.{if◌then◌else◌, ◌==◌}
use Rattle.std.proofs.lemmas.Bool.{cases_eq, cases_lt, eq-eqb, ne_eqb}
use Rattle.std.proofs.lemmas.List.{get_or_past}
use Rattle.std.proofs.lemmas.List.Sums.{sum_by-cons}
use Rattle.sqz_image.specs.Objects.{Memory, objects, object_count, chunk_words}
use Rattle.sqz_trace.specs.Graph.{is_marked}
use Rattle.sqz_trace.specs.Live.{marked}
use Rattle.sqz_regions.specs.Regions.{Cutting, region_of, region_at, live_words_in}
use Rattle.sqz_trace.proofs.LiveWordLemmas.{no_object, size, words_in-le-concat}
use Rattle.sqz_regions.proofs.SumLemmas.{sum_by-filter-cons}

-- ---- sums over the indexes below a count

-- the sum of a function of the indexes below one
abbrev pub upto : (ℕ → ℕ) → ℕ → ℕ
upto f zero = 0
upto f (suc count) = upto f count + f count

module _ (f g : ℕ → ℕ) where
  -- functions that agree have the same sum
  pub upto-same : ((index : ℕ) → f index ≡ g index) → (count : ℕ) → upto f count ≡ upto g count
  upto-same same zero = refl
  upto-same same (suc count) = omega (arith, upto-same same count, same count)

  -- the sum of a lesser function is less
  pub upto-le : ((index : ℕ) → f index ≤ g index) → (count : ℕ) → upto f count ≤ upto g count
  upto-le le zero = omega arith
  upto-le le (suc count) = omega (arith, upto-le le count, le count)

module _ (f : ℕ → ℕ) where
  -- a factor of all
  upto-times : (factor count : ℕ) → upto (λ index. f index * factor) count ≡ upto f count * factor
  upto-times factor zero = omega arith
  upto-times factor (suc count) = omega (arith, upto-times factor count)

  -- the first of them and the others
  upto-first : (count : ℕ) → upto f (suc count) ≡ f 0 + upto (λ index. f (suc index)) count
  upto-first zero = omega arith
  upto-first (suc count) = omega (arith, upto-first count)

  -- the sum of zeros
  upto-none : ((index : ℕ) → f index ≡ 0) → (count : ℕ) → upto f count ≡ 0
  upto-none none zero = refl
  upto-none none (suc count) = omega (arith, upto-none none count, none count)

-- a weighed sum in two parts
upto-parts : (whole part other g : ℕ → ℕ) → ((index : ℕ) → whole index ≡ part index + other index) → (count : ℕ)
    → upto (λ index. whole index * g index) count
    ≡ upto (λ index. part index * g index) count + upto (λ index. other index * g index) count
upto-parts whole part other g is zero = refl
upto-parts whole part other g is (suc count) =
    omega (arith, upto-parts whole part other g is count, ap (λ n. n * g count) (is count))

-- ---- one index among those below a count

-- 1 at an object's index, 0 at any other
abbrev hit : ℕ → ℕ → ℕ
hit object index = cond (eqb object index) 1 0

module _ (object : ℕ) where
  -- its own index
  hit-same : hit object object ≡ 1
  hit-same = ap (λ b. cond b 1 0) (eq-eqb object object refl)

  -- any other
  hit-other : (index : ℕ) → object ≢ index → hit object index ≡ 0
  hit-other index differs = ap (λ b. cond b 1 0) (ne_eqb object index differs)

  -- it is not among the indexes below a lesser count
  none_below : (count : ℕ) → count ≤ object → upto (hit object) count ≡ 0
  none_below zero le = refl
  none_below (suc count) le =
      omega (arith, none_below count (omega arith), hit-other count (λ same. absurd (omega arith)))

  -- it is once among those below a greater count
  one_below : (count : ℕ) → object < count → upto (hit object) count ≡ 1
  one_below zero lt = absurd (omega arith)
  one_below (suc count) lt =
      elim (cases_eq object count) [
        | inl same ↦
            (let last : hit object count ≡ 1 = ap (hit object) (sym same) ∙ hit-same in
            omega (arith, none_below count (omega arith), last))
        | inr differs ↦ omega (arith, one_below count (omega arith), hit-other count differs)
      ]

  module _ (g : ℕ → ℕ) where
    -- of a function's values only that at the object is counted
    hit-times : (index : ℕ) → hit object index * g index ≡ hit object index * g object
    hit-times index =
        elim (cases_eq object index) [
          | inl same ↦ ap (λ i. hit object index * g i) (sym same)
          | inr differs ↦
              (let none = hit-other index differs in
              ap (λ n. n * g index) none ∙ omega arith ∙ ap (λ n. n * g object) (sym none))
        ]

    -- so the sum of such products is that value
    upto-hit : (count : ℕ) → object < count → upto (λ index. hit object index * g index) count ≡ g object
    upto-hit count lt =
        upto-same (λ index. hit object index * g index) (λ index. hit object index * g object) hit-times count
        ∙ upto-times (hit object) (g object) count
        ∙ ap (λ n. n * g object) (one_below count lt)
        ∙ omega arith

-- ---- sums along lists

-- how often an index stands in a list
abbrev times : ℕ → List ℕ → ℕ
times index list = count_by (λ other. eqb other index) list

-- with an object more
times-cons : (index object : ℕ) (list : List ℕ) → times index (object ∷ list) ≡ hit object index + times index list
times-cons index object list = sum_by-cons (λ other. cond (eqb other index) 1 0) object list

module _ (g : ℕ → ℕ) where
  -- a sum along a list is the sum over the indexes, each as often as it stands there
  pub sum_by-listed : (list : List ℕ) (count : ℕ) → ((index : ℕ) → count ≤ index → times index list ≡ 0)
      → sum_by g list ≡ upto (λ index. times index list * g index) count
  sum_by-listed [] count inside = sym (upto-none (λ index. 0 * g index) (λ index. omega arith) count)
  sum_by-listed (object ∷ list) count inside =
      elim (cases_lt object count) [
        | inl lt ↦
            omega (
              arith,
              sum_by-cons g object list,
              upto-parts (λ index. times index (object ∷ list)) (hit object) (λ index. times index list) g
                  (λ index. times-cons index object list) count,
              upto-hit object g count lt,
              sum_by-listed list count (λ index le. omega (arith, inside index le, times-cons index object list)),
            )
        | inr ge ↦ absurd (omega (arith, inside object ge, times-cons object object list, hit-same object))
      ]

-- a list of indexes below one has as many items as these stand in it
pub upto-length : (count : ℕ) (list : List ℕ) → ((index : ℕ) → count ≤ index → times index list ≡ 0)
    → upto (λ index. times index list) count ≡ length list
upto-length count list inside =
    upto-same (λ index. times index list) (λ index. times index list * 1) (λ index. omega arith) count
    ∙ sym (sum_by-listed (λ index. 1) list count inside)
    ∙ ones list
  where
    ones : (list : List ℕ) → sum_by (λ index. 1) list ≡ length list
    ones [] = refl
    ones (object ∷ list) = omega (arith, sum_by-cons (λ (index : ℕ). 1) object list, ones list)

-- where no index stands twice in a list, the sum along it is no more than that over the indexes
pub sum_by-once-le : (g : ℕ → ℕ) (list : List ℕ) (count : ℕ) → ((index : ℕ) → times index list ≤ 1)
    → ((index : ℕ) → count ≤ index → times index list ≡ 0) → sum_by g list ≤ upto g count
sum_by-once-le g list count once inside =
    omega (
      arith,
      sum_by-listed g list count inside,
      upto-le (λ index. times index list * g index) g (λ index. at_most_once (times index list) (g index) (once index)) count,
    )
  where
    at_most_once : (n words : ℕ) → n ≤ 1 → n * words ≤ words
    at_most_once zero words le = omega arith
    at_most_once (suc zero) words le = omega arith
    at_most_once (suc (suc n)) words le = absurd (omega arith)

-- ---- the words of objects

module _ {X : Type 0} (g : X → ℕ) (d : X) where
  -- a sum along a list, by the list's own indexes
  upto-get_or : (xs : List X) → upto (λ index. g (get_or xs index d)) (length xs) ≡ sum_by g xs
  upto-get_or [] = refl
  upto-get_or (x ∷ xs) =
      omega (arith, upto-first (λ index. g (get_or (x ∷ xs) index d)) (length xs), upto-get_or xs, sum_by-cons g x xs)

  module _ (p : X → Bool) where
    -- what one that passes a test adds
    abbrev kept : X → ℕ
    kept x = cond (p x) (g x) 0

    -- the sum of the marked ones that pass a test
    sum_by-filter-marked : (marks : List Bool) (xs : List X)
        → sum_by g (filter p (marked marks xs))
        ≡ upto (λ index. cond (is_marked marks index) 1 0 * kept (get_or xs index d)) (length xs)
    sum_by-filter-marked [] xs = sym (upto-none (λ index. 0 * kept (get_or xs index d)) (λ index. omega arith) (length xs))
    sum_by-filter-marked (true ∷ marks) [] = refl
    sum_by-filter-marked (false ∷ marks) [] = refl
    sum_by-filter-marked (true ∷ marks) (x ∷ xs) =
        omega (
          arith,
          sum_by-filter-cons g p x (marked marks xs),
          upto-first (λ index. cond (is_marked (true ∷ marks) index) 1 0 * kept (get_or (x ∷ xs) index d)) (length xs),
          sum_by-filter-marked marks xs,
        )
    sum_by-filter-marked (false ∷ marks) (x ∷ xs) =
        omega (
          arith,
          upto-first (λ index. cond (is_marked (false ∷ marks) index) 1 0 * kept (get_or (x ∷ xs) index d)) (length xs),
          sum_by-filter-marked marks xs,
        )

-- how many words an object has that begins in this region; another has none there
abbrev pub words_at : Cutting → Memory → ℕ → ℕ → ℕ
words_at cut memory region index = if region_at cut memory index == region then length (chunk_words memory index) else 0

module _ (cut : Cutting) (memory : Memory) where
  module _ (marks : List Bool) where
    -- the live words of a region, by the indexes of the objects
    live_words_in-upto : (region : ℕ) → live_words_in cut memory marks region
        ≡ upto (λ index. cond (is_marked marks index) 1 0 * words_at cut memory region index) (object_count memory)
    live_words_in-upto region =
        sum_by-filter-marked size no_object (λ object. eqb (region_of cut object) region) marks (objects memory)

    -- and along a list in which each marked object stands once, and no other
    pub live_words_in-listed : (list : List ℕ) (region : ℕ) → length marks ≡ object_count memory
        → ((index : ℕ) → times index list ≡ cond (is_marked marks index) 1 0)
        → sum_by (words_at cut memory region) list ≡ live_words_in cut memory marks region
    live_words_in-listed list region sized once =
        sum_by-listed (words_at cut memory region) list (object_count memory)
        (λ index le. once index ∙ ap (λ b. cond b 1 0) (get_or_past marks index false (omega arith)))
        ∙ upto-same (λ index. times index list * words_at cut memory region index)
        (λ index. cond (is_marked marks index) 1 0 * words_at cut memory region index)
        (λ index. ap (λ n. n * words_at cut memory region index) (once index)) (object_count memory)
        ∙ sym (live_words_in-upto region)

  -- the objects of a region have no more words than there are
  pub upto-words-le : (region : ℕ) → upto (words_at cut memory region) (object_count memory) ≤ length (concat memory.chunks)
  upto-words-le region =
      omega (
        arith,
        upto-le (words_at cut memory region) (λ index. size (get_or (objects memory) index no_object))
            (λ index. cond-le (eqb (region_of cut (get_or (objects memory) index no_object)) region)
            (size (get_or (objects memory) index no_object))) (object_count memory),
        upto-get_or size no_object (objects memory),
        words_in-le-concat memory.chunks,
      )
    where
      cond-le : (test : Bool) (words : ℕ) → cond test words 0 ≤ words
      cond-le true words = omega arith
      cond-le false words = omega arith
