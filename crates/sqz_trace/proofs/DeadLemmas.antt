-- The objects that are not marked.
-- Serves `complements::complement` and `differences::difference`.
use Rattle.std.proofs.Common.{◌≡◌, ℕ, suc, ◌+◌, ◌<◌, Bool, true, false, not, List, [], ◌∷◌, ◌++◌, length}
use Rattle.std.proofs.Common.{refl, sym, ap, subst, ◌∙◌, arith, inl, inr}
use Rattle.std.specs.List.{Contains}
use Rattle.std.proofs.lemmas.Bool.{cases_Bool, cases_lt, true≢false, false_from_ne_true}
use Rattle.std.proofs.lemmas.List.Elements.{Contains-append_left, Contains-push, Contains-push_cases}
use Rattle.sqz_image.specs.Objects.{Memory, object_count, objects}
use Rattle.sqz_trace.specs.Avoiding.{MarksListed}
use Rattle.sqz_trace.specs.Graph.{is_marked}
use Rattle.sqz_trace.specs.Live.{marked, live}
use Rattle.sqz_trace.specs.Dead.{unmarked, dead, IsComplement}

-- ---- the list of the numbers that pass a test

-- the list has the numbers below a bound that pass
pub record AreThoseBelow (test : ℕ → Bool) (bound : ℕ) (numbers : List ℕ) : Type 0 where
  pub sound : (index : ℕ) → Contains numbers index → test index ≡ true
  pub complete : (index : ℕ) → index < bound → test index ≡ true → Contains numbers index

module _ (test : ℕ → Bool) where
  pub AreThoseBelow-none : AreThoseBelow test 0 []
  AreThoseBelow-none =
      record {
        sound = λ index none. absurd (omega (arith, none.1));
        complete = λ index lt passes. absurd (omega arith);
      }

  module _ (bound : ℕ) (numbers : List ℕ) (are : AreThoseBelow test bound numbers) where
    -- a number that does not pass is not listed
    pub AreThoseBelow-other : test bound ≡ false → AreThoseBelow test (bound + 1) numbers
    AreThoseBelow-other is =
        record {
          sound = are.sound;
          complete = λ index lt passes. elim (cases_lt index bound) [
            | inl below ↦ are.complete index below passes
            | inr above ↦
                let same : index ≡ bound = omega arith in
                absurd (true≢false (sym passes ∙ ap test same ∙ is))
          ];
        }

    -- another one comes last
    pub AreThoseBelow-push : test bound ≡ true → AreThoseBelow test (bound + 1) (numbers ++ bound ∷ [])
    AreThoseBelow-push is =
        record {
          sound = λ index has. elim (Contains-push_cases numbers bound index has) [
            | inl before ↦ are.sound index before
            | inr same ↦ ap test (sym same) ∙ is
          ];
          complete = λ index lt passes. elim (cases_lt index bound) [
            | inl below ↦ Contains-append_left numbers (bound ∷ []) index (are.complete index below passes)
            | inr above ↦
                let same : bound ≡ index = omega arith in
                subst (Contains (numbers ++ bound ∷ [])) same (Contains-push numbers bound)
          ];
        }

    -- the marks of all of them are the test
    marked_by-test : (others : List Bool) → MarksListed bound numbers others → (index : ℕ) → index < bound → is_marked others index ≡ test index
    marked_by-test others listed index lt =
        elim (cases_Bool (test index)) [
          | inl is ↦ rw is (listed.complete index lt (are.complete index lt is))
          | inr is ↦
              rw is
              (false_from_ne_true (is_marked others index)
              (λ other. true≢false (sym (are.sound index (listed.sound index other)) ∙ is)))
        ]

-- each of these objects is marked if it passes the test
pub record AreMarkedBy (count : ℕ) (test : ℕ → Bool) (marks : List Bool) : Type 0 where
  pub sized : length marks ≡ count
  pub each : (index : ℕ) → index < count → is_marked marks index ≡ test index

-- the marks of a list that is complete once all objects were looked at
pub AreMarkedBy-made : (test : ℕ → Bool) (others : List Bool) (count bound : ℕ) (numbers listed : List ℕ) → bound ≡ count → listed ≡ numbers
    → AreThoseBelow test bound numbers → MarksListed count listed others → AreMarkedBy count test others
AreMarkedBy-made test others count bound numbers listed end same are marked =
    record {
      sized = marked.sized;
      each = subst (λ (n : ℕ). (index : ℕ) → index < n → is_marked others index ≡ test index) end
          (marked_by-test test bound numbers are others
          (subst (λ (n : ℕ). MarksListed n numbers others) (sym end)
          (subst (λ (xs : List ℕ). MarksListed count xs others) same marked)));
    }

-- ---- the elements that are not marked

marked-complement : {X : Type 0} (marks others : List Bool) (xs : List X) → length others ≡ length xs
    → ((index : ℕ) → index < length xs → is_marked others index ≡ not (is_marked marks index))
    → marked others xs ≡ unmarked marks xs
marked-complement [] [] [] sized each = refl
marked-complement (mark ∷ marks) [] [] sized each = refl
marked-complement marks (other ∷ others) [] sized each = absurd (omega arith)
marked-complement marks [] (x ∷ xs) sized each = absurd (omega arith)
marked-complement [] (true ∷ others) (x ∷ xs) sized each =
    ap (λ ys. x ∷ ys) (marked-complement [] others xs (omega arith) (λ index lt. each (suc index) (omega arith)))
marked-complement [] (false ∷ others) (x ∷ xs) sized each = absurd (true≢false (sym (each 0 (omega arith))))
marked-complement (true ∷ marks) (true ∷ others) (x ∷ xs) sized each = absurd (true≢false (each 0 (omega arith)))
marked-complement (true ∷ marks) (false ∷ others) (x ∷ xs) sized each =
    marked-complement marks others xs (omega arith) (λ index lt. each (suc index) (omega arith))
marked-complement (false ∷ marks) (true ∷ others) (x ∷ xs) sized each =
    ap (λ ys. x ∷ ys) (marked-complement marks others xs (omega arith) (λ index lt. each (suc index) (omega arith)))
marked-complement (false ∷ marks) (false ∷ others) (x ∷ xs) sized each = absurd (true≢false (sym (each 0 (omega arith))))

-- the objects that a complement marks are the dead ones
pub live-complement : (memory : Memory) (marks others : List Bool) → IsComplement (object_count memory) marks others
    → live memory others ≡ dead memory marks
live-complement memory marks others is = marked-complement marks others (objects memory) is.sized is.each
