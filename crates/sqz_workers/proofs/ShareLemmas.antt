-- What a pass gains if its shares are worked on separately. Serves
-- `shared_work::SharedWork::run_team` and `shared_work::SharedWork::run_halves`.
use Rattle.std.proofs.Common.{◌≡◌, ℕ, ◌+◌, ◌≤◌, List, [], ◌∷◌, ◌++◌, length, set, sum, sym, subst, ◌∙◌, ap, arith}
use Rattle.std.proofs.lemmas.List.{length-append}
use Rattle.std.proofs.lemmas.List.Sums.{sum_by-append}
use Rattle.sqz_marks.specs.Core.{kept_of, part_of, joined}
use Rattle.sqz_marks.specs.Table.{HeldPass, knowing}
use Rattle.sqz_marks.proofs.TimesLemmas.{times-append}
use Rattle.sqz_workers.specs.Gains.{HasGained}

-- one worker's number is the sum
pub sum-one : (numbers : List ℕ) (number : ℕ) → length numbers ≡ 1 → sum (set numbers 0 number) ≡ number
sum-one [] number one = absurd (omega arith)
sum-one (x ∷ []) number one = omega arith
sum-one (x ∷ y ∷ numbers) number one = absurd (omega arith)

-- a pass that was split, whose two parts gained, and that took its part in again
pub HasGained-joined : (old kept part first second new : HeldPass) (weight one other : ℕ) → weight ≤ old.view.weight
    → kept ≡ knowing old (kept_of weight old.view) → part ≡ knowing old (part_of weight)
    → HasGained kept first one → HasGained part second other → new ≡ knowing first (joined first.view second.view)
    → HasGained old new (one + other)
HasGained-joined old kept part first second new weight one other below is_kept is_part gained part_gained is_new =
    let own = subst (λ (p : HeldPass). HasGained p first one) is_kept gained in
    let share = subst (λ (p : HeldPass). HasGained p second other) is_part part_gained in
    subst (λ (p : HeldPass). HasGained old p (one + other)) (sym is_new) (in_two own share)
  where
    in_two : HasGained (knowing old (kept_of weight old.view)) first one → HasGained (knowing old (part_of weight)) second other
        → HasGained old (knowing first (joined first.view second.view)) (one + other)
    in_two own share =
        record {
          table = own.table;
          workers = own.workers;
          weight = omega (arith, own.weight, share.weight, below);
          won = omega (arith, length-append first.view.won second.view.won, own.won, share.won);
          kept = λ object. omega (arith, own.kept object, times-append object first.view.won second.view.won);
          seen = λ object seen. omega (arith, own.seen object seen, times-append object first.view.seen second.view.seen);
          counted = λ object. omega (
            arith,
            own.counted object,
            share.counted object,
            times-append object first.view.counted second.view.counted,
            times-append object first.view.won second.view.won,
          );
          blackened = λ object known.
              omega (arith, own.blackened object known, times-append object first.view.blackened second.view.blackened);
        }

-- a pass that took in one takes in the same one
pub knowing-joined_same : (first other second new : HeldPass) → other ≡ second → new ≡ knowing first (joined first.view other.view)
    → new ≡ knowing first (joined first.view second.view)
knowing-joined_same first other second new same is_new = is_new ∙ ap (λ (p : HeldPass). knowing first (joined first.view p.view)) same

-- two teams gained what their numbers say, which stand in the halves of a list
pub HasGained-halves : (old new : HeldPass) (low high first second : List ℕ) → low ≡ first → high ≡ second
    → HasGained old new (sum first + sum second) → HasGained old new (sum (low ++ high))
HasGained-halves old new low high first second low_is high_is gained =
    let both : sum first + sum second ≡ sum (low ++ high) =
    omega (arith, sum_by-append (λ number. number) low high, ap sum low_is, ap sum high_is) in
    subst (HasGained old new) both gained
