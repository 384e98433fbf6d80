-- What a pass gains by one step after another. Serves the functions of `scanning` and `remaining`,
-- `shared_work::SharedWork::run_worker` and `stealing::mark`.
use Rattle.std.proofs.Common.{◌≡◌, ◌≢◌, ℕ, ◌+◌, ◌<◌, List, [], ◌∷◌, ◌++◌, Some, refl, sym, ap, subst, ◌∙◌, cond, eqb, arith, inl, inr}
use Rattle.std.specs.Prelude.{Option, None}
use Rattle.std.proofs.lemmas.Bool.{cases_lt}
use Rattle.std.proofs.lemmas.List.Sums.{sum_by-cons}
use Rattle.std.proofs.lemmas.Option.{same_Some}
use Rattle.sqz_image.specs.declared.slot.Slot.{Slot}
use Rattle.sqz_trace.specs.declared.shades.Shade.{Shade}
use Rattle.sqz_trace.specs.declared.shades.Shade.TheVariants.{White, Grey, Black}
use Rattle.sqz_trace.specs.Edges.{OutEdges, edge_target, IsTargetAmong}
use Rattle.sqz_trace.proofs.TargetLemmas.{IsTargetAmong-next}
use Rattle.sqz_marks.specs.declared.view.View.{View}
use Rattle.sqz_marks.specs.Core.{times, HasSeen, HasBlackened, looked, claimed, seen_by, counted, blackened}
use Rattle.sqz_marks.specs.Table.{SharedMarks, HeldPass, IsPassOf, HasCountedAll, knowing}
use Rattle.sqz_marks.proofs.TimesLemmas.{times-same, times-more}
use Rattle.sqz_marks.specs.declared.claim.Claim.{Claim}
use Rattle.sqz_marks.specs.declared.claim.Claim.TheVariants.{Won, Seen, Nothing}
use Rattle.sqz_marks.specs.Claims.{IsClaim}
use Rattle.sqz_workers.specs.Gains.{HasGained, HasGainedSome, HasSeenTarget}

-- a pass that came to know more, and won none more
HasGained-known : (old : HeldPass) (seen black : List ℕ) → ((object : ℕ) → HasSeen old.view object → 0 < times object seen)
    → ((object : ℕ) → HasBlackened old.view object → 0 < times object black)
    → HasGained old
    (knowing old record { weight = old.view.weight; won = old.view.won; seen = seen; counted = old.view.counted; blackened = black }) 0
HasGained-known old seen black sees knows =
    record {
      table = refl;
      workers = refl;
      weight = refl;
      won = omega arith;
      kept = λ object. omega arith;
      seen = sees;
      counted = λ object. omega arith;
      blackened = knows;
    }

pub HasGained-none : (pass : HeldPass) → HasGained pass pass 0
HasGained-none pass = HasGained-known pass pass.view.seen pass.view.blackened (λ object seen. seen) (λ object known. known)

pub HasGained-then : (old pass new : HeldPass) (first more : ℕ) → HasGained old pass first → HasGained pass new more
    → HasGained old new (first + more)
HasGained-then old pass new first more before after =
    record {
      table = after.table ∙ before.table;
      workers = after.workers ∙ before.workers;
      weight = after.weight ∙ before.weight;
      won = omega (arith, before.won, after.won);
      kept = λ object. omega (arith, before.kept object, after.kept object);
      seen = λ object seen. after.seen object (before.seen object seen);
      counted = λ object. omega (arith, before.counted object, after.counted object);
      blackened = λ object known. after.blackened object (before.blackened object known);
    }

-- the same if the first step won none
pub HasGained-after : (old pass new : HeldPass) (more : ℕ) → HasGained old pass 0 → HasGained pass new more → HasGained old new more
HasGained-after old pass new more before after =
    let sum : 0 + more ≡ more = omega arith in
    subst (HasGained old new) sum (HasGained-then old pass new 0 more before after)

-- or the second
pub HasGained-before : (old pass new : HeldPass) (objects : ℕ) → HasGained old pass objects → HasGained pass new 0
    → HasGained old new objects
HasGained-before old pass new objects before after =
    let sum : objects + 0 ≡ objects = omega arith in
    subst (HasGained old new) sum (HasGained-then old pass new objects 0 before after)

-- an object that became black
pub HasGained-blackened : (old : HeldPass) (object : ℕ) → HasGained old (knowing old (blackened object old.view)) 0
HasGained-blackened old object =
    HasGained-known old old.view.seen (object ∷ old.view.blackened) (λ other seen. seen)
    (λ other known. omega (arith, known, times-more other object old.view.blackened))

-- a look
pub HasGained-looked : (old new : HeldPass) (shade : Shade) (object : ℕ) → new ≡ knowing old (looked object shade old.view)
    → HasGained old new 0
HasGained-looked old new shade object step = subst (λ (pass : HeldPass). HasGained old pass 0) (sym step) (by_shade shade)
  where
    saw : HasGained old (knowing old (seen_by object old.view)) 0
    saw =
        HasGained-known old (object ∷ old.view.seen) old.view.blackened
        (λ other seen. omega (arith, seen, times-more other object old.view.seen)) (λ other known. known)

    by_shade : (shade : Shade) → HasGained old (knowing old (looked object shade old.view)) 0
    by_shade White = HasGained-none old
    by_shade Grey = saw
    by_shade Black = HasGained-then old (knowing old (seen_by object old.view)) (knowing old (looked object Black old.view)) 0 0 saw
        (HasGained-blackened (knowing old (seen_by object old.view)) object)

-- a claim of an object that was marked
pub HasGained-seen : (old : HeldPass) (object : ℕ) → HasGained old (knowing old (claimed object Grey old.view)) 0
HasGained-seen old object = HasGained-looked old (knowing old (seen_by object old.view)) Grey object refl

-- an object more in one list and in the other
times-both : (object other : ℕ) (list more : List ℕ)
    → times object (other ∷ list) + times object more ≡ times object list + times object (other ∷ more)
times-both object other list more =
    let one : ℕ → ℕ = λ o. cond (eqb o object) 1 0 in
    omega (arith, sum_by-cons one other list, sum_by-cons one other more)

-- a claim of a white one, which is counted next
pub HasGained-won : (old : HeldPass) (object : ℕ)
    → HasGained old (knowing (knowing old (claimed object White old.view)) (counted object (claimed object White old.view))) 1
HasGained-won old object =
    record {
      table = refl;
      workers = refl;
      weight = refl;
      won = omega arith;
      kept = λ other. times-more other object old.view.won;
      seen = λ other seen. omega (arith, seen, times-more other object old.view.seen);
      counted = λ other. times-both other object old.view.counted old.view.won;
      blackened = λ other known. known;
    }

-- if it does not matter how many objects were won
pub HasGainedSome-of : (old new : HeldPass) (objects : ℕ) → HasGained old new objects → HasGainedSome old new
HasGainedSome-of old new objects gained = record { objects = objects; gained = gained }

pub HasGainedSome-then : (old pass new : HeldPass) → HasGainedSome old pass → HasGainedSome pass new → HasGainedSome old new
HasGainedSome-then old pass new before after =
    record {
      objects = before.objects + after.objects;
      gained = HasGained-then old pass new before.objects after.objects before.gained after.gained;
    }

-- the object of a claim
abbrev object_in : Claim → ℕ
object_in (Won object) = object
object_in (Seen object) = object
object_in Nothing = 0

module _ (old pass : HeldPass) (answer : Claim) where
  -- the object that a slot points to is won and counted
  pub HasGained-claimed : (names : Option ℕ) (object : ℕ) (new : HeldPass) → IsClaim names old pass answer → answer ≡ Won object
      → new ≡ knowing pass (counted object pass.view) → HasGained old new 1
  HasGained-claimed None object new claim is step = absurd (let no : Nothing ≡ Won object = sym claim.0 ∙ is in cc)
  HasGained-claimed (Some target) object new (inl claim) is step =
      let same : target ≡ object = ap object_in (sym claim.0 ∙ is) in
      subst (λ (p : HeldPass). HasGained old p 1)
      (sym (step ∙ ap (λ (p : HeldPass). knowing p (counted object p.view)) claim.1
      ∙ ap (λ o. knowing (knowing old (claimed o White old.view)) (counted object (claimed o White old.view))) same))
      (HasGained-won old object)
  HasGained-claimed (Some target) object new (inr claim) is step = absurd (let no : Seen target ≡ Won object = sym claim.0 ∙ is in cc)

  -- or seen, or there is none
  pub HasGained-unclaimed : (names : Option ℕ) → IsClaim names old pass answer → ((object : ℕ) → answer ≢ Won object) → HasGained old pass 0
  HasGained-unclaimed None claim other = subst (λ (p : HeldPass). HasGained old p 0) (sym claim.1) (HasGained-none old)
  HasGained-unclaimed (Some target) (inl claim) other = absurd (other target claim.0)
  HasGained-unclaimed (Some target) (inr claim) other =
      subst (λ (p : HeldPass). HasGained old p 0) (sym claim.1) (HasGained-seen old target)

  -- what the slot points to was seen
  pub HasSeenTarget-claimed : (names : Option ℕ) → IsClaim names old pass answer → HasSeenTarget names pass.view
  HasSeenTarget-claimed None claim object is = absurd (let no : None ≡ Some object = is in cc)
  HasSeenTarget-claimed (Some target) (inl claim) object is =
      subst (λ (p : HeldPass). HasSeen p.view object) (sym claim.1)
      (subst (λ o. 0 < times object (o ∷ old.view.seen)) (sym (same_Some _ _ is)) (omega (arith, times-same object old.view.seen)))
  HasSeenTarget-claimed (Some target) (inr claim) object is =
      subst (λ (p : HeldPass). HasSeen p.view object) (sym claim.1)
      (subst (λ o. 0 < times object (o ∷ old.view.seen)) (sym (same_Some _ _ is)) (omega (arith, times-same object old.view.seen)))

-- a pass that had counted all that it won still has
pub HasCountedAll-gained : (old new : HeldPass) (objects : ℕ) → HasGained old new objects → HasCountedAll old.view → HasCountedAll new.view
HasCountedAll-gained old new objects gained all object won =
    elim (cases_lt 0 (times object old.view.won)) [
      | inl before ↦ omega (arith, all object before, gained.kept object, gained.counted object)
      | inr none ↦ omega (arith, won, gained.counted object)
    ]

-- it is a pass of the same table
pub IsPassOf-gained : (marks : SharedMarks) (old new : HeldPass) (objects : ℕ) → IsPassOf marks old → HasGained old new objects
    → IsPassOf marks new
IsPassOf-gained marks old new objects of gained = (gained.table ∙ of.0, gained.workers ∙ of.1)

-- the targets of the slots so far were seen
abbrev pub HasSeenAmong : OutEdges → List Slot → View → Type 0
HasSeenAmong edges slots view = (index : ℕ) → IsTargetAmong edges slots index → HasSeen view index

-- and then that of one slot more
pub HasSeenAmong-next : (edges : OutEdges) (slots : List Slot) (slot : Slot) (old new : View) → HasSeenAmong edges slots old
    → ((index : ℕ) → HasSeen old index → HasSeen new index)
    → ((index : ℕ) → edge_target edges slot ≡ Some index → HasSeen new index) → HasSeenAmong edges (slots ++ slot ∷ []) new
HasSeenAmong-next edges slots slot old new before keeps here index target =
    elim (IsTargetAmong-next edges slots slot index target) [
      | inl was ↦ keeps index (before index was)
      | inr is ↦ here index is
    ]
