-- Votes, and sums of votes.
-- Serves `ReadingLemmas`, `votes`, `voted`, `steps` and `reading`.
use Rattle.std.proofs.Common.{◌≡◌, ℕ, zero, suc, ◌+◌, ◌-◌, ◌*◌, ◌<◌, ◌≤◌, Bool, true, false, ◌||◌, List, [], ◌∷◌, ◌++◌, length}
use Rattle.std.specs.Prelude.{replicate, slice_index_or, if◌then◌else◌}
use Rattle.std.proofs.Common.{take, set, slice_index, refl, sym, ap, ◌∙◌, arith, inl, inr, append_assoc}
use Rattle.std.proofs.lemmas.Bool.{cases_eq, ne_eqb, eq-eqb}
use Rattle.std.proofs.lemmas.List.Folds.{list_any-append}
use Rattle.std.proofs.lemmas.List.{append-nil, get_or-set_same, get_or-set_other, length-set, get_or-replicate, length-replicate, take_more}
use Rattle.sqz_damage.specs.Counting.{AreLaterVotes}
use Rattle.sqz_damage.specs.Votes.{has_vote, votes_of, AreVotes, Casts, sum_from}

-- a sum in two parts
pub sum_from-add : (f : ℕ → ℕ) (first a b : ℕ)
    → sum_from f first (a + b) ≡ sum_from f first a + sum_from f (first + a) b
sum_from-add f first zero b =
    let none : 0 + b ≡ b = omega arith in
    let same : first + 0 ≡ first = omega arith in
    rw (none, same) (omega arith)
sum_from-add f first (suc a) b =
    let more : suc a + b ≡ suc (a + b) = omega arith in
    let same : first + suc a ≡ suc first + a = omega arith in
    let rest = sum_from-add f (suc first) a b in
    rw (more, same) (omega (arith, rest))

-- the sum up to an end is that up to an index before it and that from there on
pub sum_from-split : (f : ℕ → ℕ) (first middle end : ℕ) → first ≤ middle → middle ≤ end
    → sum_from f first (end - first) ≡ sum_from f first (middle - first) + sum_from f middle (end - middle)
sum_from-split f first middle end low high =
    let sizes : end - first ≡ (middle - first) + (end - middle) = omega arith in
    let there : first + (middle - first) ≡ middle = omega arith in
    ap (sum_from f first) sizes
    ∙ sum_from-add f first (middle - first) (end - middle)
    ∙ ap (λ (k : ℕ). sum_from f first (middle - first) + sum_from f k (end - middle)) there

-- a sum is that of its first number and of the rest
pub sum_from-more : (f : ℕ → ℕ) (first end : ℕ) → first < end
    → sum_from f first (end - first) ≡ f first + sum_from f (suc first) (end - suc first)
sum_from-more f first end lt =
    let size : end - first ≡ suc (end - suc first) = omega arith in rw size refl

-- the sum of one number
pub sum_from-one : (f : ℕ → ℕ) (k : ℕ) → sum_from f k (k + 1 - k) ≡ f k
sum_from-one f k = let size : k + 1 - k ≡ suc zero = omega arith in rw size (omega arith)

-- each number is at most the sum
pub le-sum_from : (f : ℕ → ℕ) (first end k : ℕ) → first ≤ k → k < end → f k ≤ sum_from f first (end - first)
le-sum_from f first end k low high =
    omega (arith, sum_from-split f first k end low (omega arith), sum_from-more f k end high)

-- there are no more votes than words
pub votes_of-le : (votes : List Bool) (k : ℕ) → votes_of votes k ≤ 1
votes_of-le votes k =
    elim (slice_index_or votes k false) as (λ b. (if b then 1 else 0) ≤ 1) [ true ↦ omega arith | false ↦ omega arith ]

pub sum_from-votes-le : (votes : List Bool) (first count : ℕ) → sum_from (votes_of votes) first count ≤ count
sum_from-votes-le votes first zero = omega arith
sum_from-votes-le votes first (suc count) =
    omega (arith, votes_of-le votes first, sum_from-votes-le votes (suc first) count)

-- ---- casting votes

has_vote-append : (base : ℕ) (voters more : List ℕ) (k : ℕ)
    → has_vote base (voters ++ more) k ≡ (has_vote base voters k || has_vote base more k)
unfolding has_vote
has_vote-append base voters more k = list_any-append _ voters more

or-false : (b : Bool) → (b || false) ≡ b
or-false true = refl
or-false false = refl

or-true : (b : Bool) → (b || true) ≡ true
or-true true = refl
or-true false = refl

-- the vote of one word for word `k`
has_vote-yes : (base word k : ℕ) → word ≡ base + 4 * k → has_vote base (word ∷ []) k ≡ true
unfolding has_vote
has_vote-yes base word k is = rw (eq-eqb word (base + 4 * k) is) refl

has_vote-no : (base word k : ℕ) → (word ≡ base + 4 * k → ⊥) → has_vote base (word ∷ []) k ≡ false
unfolding has_vote
has_vote-no base word k not = rw (ne_eqb word (base + 4 * k) not) refl

-- no voter
pub AreVotes-none : (base : ℕ) (votes : List Bool) (count : ℕ) → votes ≡ replicate count false → AreVotes base [] votes
unfolding has_vote
AreVotes-none base votes count is k lt =
    ap (λ (v : List Bool). slice_index_or v k false) is
    ∙ get_or-replicate count k false false (omega (arith, ap length is, length-replicate count false))

pub Casts-none : (base : ℕ) (votes : List Bool) → Casts base [] votes votes
Casts-none base votes = record { sized = refl; added = λ voters are. rw append-nil are }

-- some voters, and then more
pub Casts-then : (base : ℕ) (some more : List ℕ) (old middle new : List Bool)
    → Casts base some old middle → Casts base more middle new → Casts base (some ++ more) old new
Casts-then base some more old middle new first next =
    record {
      sized = next.sized ∙ first.sized;
      added = λ voters are.
          rw (← append_assoc voters some more) (next.added (voters ++ some) (first.added voters are));
    }

-- a word that is the address of a data word
pub Casts-yes : (base word k : ℕ) (votes : List Bool) → k < length votes → word ≡ base + 4 * k
    → Casts base (word ∷ []) votes (set votes k true)
Casts-yes base word k votes lt is =
    record {
      sized = length-set votes k true;
      added = λ voters are j within.
          let inside : j < length votes = omega (arith, length-set votes k true) in
          elim (cases_eq j k) [
            | inl same ↦
                rw same
                (get_or-set_same votes k true false lt
                ∙ sym (or-true (has_vote base voters k))
                ∙ ap (λ (b : Bool). has_vote base voters k || b) (sym (has_vote-yes base word k is))
                ∙ sym (has_vote-append base voters (word ∷ []) k))
            | inr apart ↦
                get_or-set_other votes k j true false apart
                ∙ are j inside
                ∙ sym (or-false (has_vote base voters j))
                ∙ ap (λ (b : Bool). has_vote base voters j || b) (sym (has_vote-no base word j (λ other. apart (omega arith))))
                ∙ sym (has_vote-append base voters (word ∷ []) j)
          ];
    }

-- a word that is none
pub Casts-no : (base word : ℕ) (votes : List Bool) → ((k : ℕ) → k < length votes → word ≡ base + 4 * k → ⊥)
    → Casts base (word ∷ []) votes votes
Casts-no base word votes none =
    record {
      sized = refl;
      added = λ voters are j within.
          are j within
          ∙ sym (or-false (has_vote base voters j))
          ∙ ap (λ (b : Bool). has_vote base voters j || b) (sym (has_vote-no base word j (none j within)))
          ∙ sym (has_vote-append base voters (word ∷ []) j);
    }

-- one voter more of a list
pub Casts-more : (base : ℕ) (words : List ℕ) (i : ℕ) (old middle new : List Bool) → i < length words
    → Casts base (take i words) old middle → Casts base (slice_index words i ∷ []) middle new
    → Casts base (take (i + 1) words) old new
Casts-more base words i old middle new lt first next =
    rw (take_more words i 0 lt) (Casts-then base (take i words) (slice_index words i ∷ []) old middle new first next)

-- ---- adding up

-- the sums from index `k` on are found
pub record AreAdded (votes : ℕ → ℕ) (count k : ℕ) (later : List ℕ) : Type 0 where
  pub inside : k ≤ count
  pub sized : length later ≡ count + 1
  pub done : (j : ℕ) → k ≤ j → j ≤ count → slice_index later j ≡ sum_from votes j (count - j)

module _ (votes : ℕ → ℕ) (count : ℕ) (later : List ℕ) where
  pub AreAdded-none : later ≡ replicate (count + 1) 0 → AreAdded votes count count later
  AreAdded-none is =
      record {
        inside = omega arith;
        sized = ap length is ∙ length-replicate (count + 1) 0;
        done = λ j low high.
            let end : j ≡ count = omega arith in
            let none : count - count ≡ 0 = omega arith in
            rw (end, none)
            (ap (λ (ns : List ℕ). slice_index ns count) is ∙ get_or-replicate (count + 1) count 0 0 (omega arith));
      }

  pub AreLaterVotes-added : AreAdded votes count 0 later → AreLaterVotes votes count later
  AreLaterVotes-added are = record { sized = are.sized; each = λ k le. are.done k (omega arith) le }

  pub AreAdded-more : (k : ℕ) → AreAdded votes count (suc k) later → (sum : ℕ)
      → sum ≡ votes k + slice_index later (suc k) → AreAdded votes count k (set later k sum)
  AreAdded-more k are sum is =
      let inside : k < count = let le = are.inside in omega arith in
      let room : k < length later = let sized = are.sized in omega arith in
      record {
        inside = omega arith;
        sized = length-set later k sum ∙ are.sized;
        done = λ j low high.
            elim (cases_eq j k) [
              | inl same ↦
                  rw same
                  (omega (
                    arith,
                    get_or-set_same later k sum 0 room,
                    is,
                    are.done (suc k) (omega arith) (omega arith),
                    sum_from-more votes k count inside,
                  ))
              | inr apart ↦ get_or-set_other later k j sum 0 apart ∙ are.done j (omega arith) high
            ];
      }

  -- ---- sums between two indexes

  pub later-split : AreLaterVotes votes count later → (first end : ℕ) → first ≤ end → end ≤ count
      → slice_index later first ≡ sum_from votes first (end - first) + slice_index later end
  later-split are first end low high =
      omega (
        arith,
        are.each first (omega arith),
        are.each end high,
        sum_from-split votes first end count low high,
      )
