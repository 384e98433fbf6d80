-- What a pass knows after calls, one after the other.
-- Serves `alone::mark_alone`, `passes::raced`, `steps::assert_blackens`, `::assert_claims`,
-- `::assert_each_blackens`, `::assert_looks`, `::assert_marked`, `::claim`, `::mark_dead_cycle`,
-- `::mark_named`, `::mark_special`, `targets::claim_target`, `targets::mark_targets` and
-- `InOrderLemmas`.
use Rattle.std.proofs.Common.{◌≡◌, ◌≢◌, ◌⊎◌, ℕ, ◌<◌, List, [], ◌∷◌, ◌++◌, length, length-append, Option, Some, None, refl, sym, ap, subst, ◌∙◌}
use Rattle.std.proofs.Common.{arith, inl, inr}
use Rattle.std.specs.Prelude.{slice_index_or}
use Rattle.std.proofs.Math.ListN.{get_or-append}
use Rattle.std.proofs.Math.Seq.{get_or-append_seam}
use Rattle.std.proofs.lemmas.List.Elements.{All-push}
use Rattle.sqz_image.specs.declared.slot.Slot.{Slot}
use Rattle.sqz_trace.specs.declared.shades.Shade.{Shade}
use Rattle.sqz_trace.specs.declared.shades.Shade.TheVariants.{White, Grey, Black}
use Rattle.sqz_trace.specs.Edges.{OutEdges, edge_target}
use Rattle.sqz_marks.specs.declared.view.View.{View}
use Rattle.sqz_marks.specs.declared.claim.Claim.{Claim}
use Rattle.sqz_marks.specs.declared.claim.Claim.TheVariants.{Won, Seen, Nothing}
use Rattle.sqz_marks.specs.Core.{times, HasWon, HasSeen, first_view, looked, seen_by, won_by, counted, blackened}
use Rattle.sqz_marks.specs.Core.{kept_of, part_of, joined}
use Rattle.sqz_marks.specs.Table.{HeldPass, HasCountedAll, knowing}
use Rattle.sqz_marks.specs.Claims.{IsClaim}
use Rattle.sqz_marks.proofs.TimesLemmas.{times-same, times-more, times-either, times-append, times-in_two}
use Rattle.sqz_test_marks.specs.Passes.{IsLater, Knows, AreSeen, ClaimsTargets}

-- ---- one pass after the other

pub IsLater-same : (pass : HeldPass) → IsLater pass pass
IsLater-same pass = record { table = refl; workers = refl; weight = refl; keeps = λ object seen. seen; counts = λ all. all }

pub IsLater-then : (first second third : HeldPass) → IsLater first second → IsLater second third → IsLater first third
IsLater-then first second third old new =
    record {
      table = new.table ∙ old.table;
      workers = new.workers ∙ old.workers;
      weight = new.weight ∙ old.weight;
      keeps = λ object seen. new.keeps object (old.keeps object seen);
      counts = λ all. new.counts (old.counts all);
    }

-- ---- lists of objects that a pass has seen

-- they stay so
pub AreSeen-later : (count : ℕ) (old new : HeldPass) (list : List ℕ) → IsLater old new → AreSeen count old.view list
    → AreSeen count new.view list
AreSeen-later count old new list later seen k d lt =
    let item = seen k d lt in (item.0, later.keeps (slice_index_or list k d) item.1)

-- the last of a list, and those before it
pub AreSeen-last : (count : ℕ) (view : View) (list : List ℕ) (object : ℕ) → AreSeen count view (list ++ object ∷ [])
    → (object < count) × HasSeen view object
AreSeen-last count view list object seen =
    let long : length list < length (list ++ object ∷ []) = omega (arith, length-append list (object ∷ [])) in
    subst (λ (o : ℕ). (o < count) × HasSeen view o) (get_or-append_seam list object [] 0) (seen (length list) 0 long)

pub AreSeen-front : (count : ℕ) (view : View) (list : List ℕ) (object : ℕ) → AreSeen count view (list ++ object ∷ [])
    → AreSeen count view list
AreSeen-front count view list object seen k d lt =
    let long : k < length (list ++ object ∷ []) = omega (arith, lt, length-append list (object ∷ [])) in
    subst (λ (o : ℕ). (o < count) × HasSeen view o) (get_or-append list (object ∷ []) d k lt) (seen k d long)

-- the list that marking begins with
pub AreSeen-first : (count : ℕ) (view : View) {workers : ℕ} (start : ℕ) → view ≡ first_view workers start → start < count
    → AreSeen count view (start ∷ [])
AreSeen-first count view start is inside =
    All-push (λ object. (object < count) × HasSeen view object) [] start (λ k d lt. absurd (omega (arith, lt)))
    (inside, subst (λ (v : View). HasSeen v start) (sym is) (omega (arith, times-same start [])))

-- ---- looks and claims

-- what stands in one list stands in another, also with an object more in each
counted-all : (object : ℕ) (won all : List ℕ) → ((other : ℕ) → 0 < times other won → 0 < times other all) → (other : ℕ)
    → 0 < times other (object ∷ won) → 0 < times other (object ∷ all)
counted-all object won all counts other is_won =
    elim (times-either other object won is_won) [
      | inl same ↦ subst (λ (o : ℕ). 0 < times o (object ∷ all)) (sym same) (omega (arith, times-same object all))
      | inr is_won ↦ omega (arith, counts other is_won, times-more other object all)
    ]

module _ (pass : HeldPass) (object : ℕ) where
  -- it saw an object
  IsLater-seen : IsLater pass (knowing pass (seen_by object pass.view))
  IsLater-seen =
      record {
        table = refl;
        workers = refl;
        weight = refl;
        keeps = λ other seen. omega (arith, seen, times-more other object pass.view.seen);
        counts = λ all. all;
      }

  -- it looked at one
  pub IsLater-looked : (shade : Shade) → IsLater pass (knowing pass (looked object shade pass.view))
  IsLater-looked White = IsLater-same pass
  IsLater-looked Grey = IsLater-seen
  IsLater-looked Black =
      record { table = refl; workers = refl; weight = refl; keeps = IsLater-seen.keeps; counts = λ all. all }

  -- it won one and counted it
  pub IsLater-counted : IsLater pass (knowing pass (counted object (won_by object pass.view)))
  IsLater-counted =
      record {
        table = refl;
        workers = refl;
        weight = refl;
        keeps = IsLater-seen.keeps;
        counts = counted-all object pass.view.won pass.view.counted;
      }

module _ (old new : HeldPass) where
  -- what was won is what is named
  pub IsClaim-won : (named : Option ℕ) (found : ℕ) → IsClaim named old new (Won found)
      → (named ≡ Some found) × (new ≡ knowing old (won_by found old.view))
  IsClaim-won None found claim = absurd (cc (claim.0))
  IsClaim-won (Some object) found (inl won) =
      let same : object ≡ found = (let e : Won found ≡ Won object = won.0 in cc) in
      (ap Some same, subst (λ (o : ℕ). new ≡ knowing old (won_by o old.view)) same won.1)
  IsClaim-won (Some object) found (inr seen) = absurd (cc (seen.0))

  -- what was seen is what is named
  pub IsClaim-seen : (named : Option ℕ) (found : ℕ) → IsClaim named old new (Seen found)
      → (named ≡ Some found) × (new ≡ knowing old (seen_by found old.view))
  IsClaim-seen None found claim = absurd (cc (claim.0))
  IsClaim-seen (Some object) found (inl won) = absurd (cc (won.0))
  IsClaim-seen (Some object) found (inr seen) =
      let same : object ≡ found = (let e : Seen found ≡ Seen object = seen.0 in cc) in
      (ap Some same, subst (λ (o : ℕ). new ≡ knowing old (seen_by o old.view)) same seen.1)

  -- where nothing is found nothing is named
  pub IsClaim-nothing : (named : Option ℕ) → IsClaim named old new Nothing → (named ≡ None) × (new ≡ old)
  IsClaim-nothing None claim = (refl, claim.1)
  IsClaim-nothing (Some object) (inl won) = absurd (cc (won.0))
  IsClaim-nothing (Some object) (inr seen) = absurd (cc (seen.0))

  pub IsClaim-wins : (named : Option ℕ) (found : ℕ) → IsClaim named old new (Won found) → HasWon new.view found
  IsClaim-wins named found claim =
      let step = (IsClaim-won named found claim).1 in
      subst (λ (p : HeldPass). HasWon p.view found) (sym step) (omega (arith, times-same found old.view.won))

  -- when it is counted the pass is as before, and has seen the object
  pub IsClaim-counted : (named : Option ℕ) (found : ℕ) (third : HeldPass) → IsClaim named old new (Won found)
      → third ≡ knowing new (counted found new.view) → HasSeen third.view found × IsLater old third
  IsClaim-counted named found third claim step =
      let won = (IsClaim-won named found claim).1 in
      let again = step ∙ ap (λ (p : HeldPass). knowing p (counted found p.view)) won in
      let both : third ≡ knowing old (counted found (won_by found old.view)) = again in (
        subst (λ (p : HeldPass). HasSeen p.view found) (sym both) (omega (arith, times-same found old.view.seen)),
        subst (IsLater old) (sym both) (IsLater-counted old found),
      )

  -- what was not won is as before, and what is named is seen
  module _ (answer : Claim) (not_won : (found : ℕ) → answer ≢ Won found) where
    pub IsClaim-later : (named : Option ℕ) → IsClaim named old new answer → IsLater old new
    IsClaim-later None claim = subst (IsLater old) (sym claim.1) (IsLater-same old)
    IsClaim-later (Some object) (inl won) = absurd (not_won object won.0)
    IsClaim-later (Some object) (inr seen) = subst (IsLater old) (sym seen.1) (IsLater-seen old object)

    pub IsClaim-sees : (object : ℕ) → IsClaim (Some object) old new answer → HasSeen new.view object
    IsClaim-sees object (inl won) = absurd (not_won object won.0)
    IsClaim-sees object (inr seen) =
        subst (λ (p : HeldPass). HasSeen p.view object) (sym seen.1) (omega (arith, times-same object old.view.seen))

    pub IsClaim-knows : (named : Option ℕ) → IsClaim named old new answer → Knows new.view answer
    IsClaim-knows None claim = subst (Knows new.view) (sym claim.0) tt
    IsClaim-knows (Some object) (inl won) = absurd (not_won object won.0)
    IsClaim-knows (Some object) (inr seen) = subst (Knows new.view) (sym seen.0) (IsClaim-sees object (inr seen))

-- ---- passes that are split and joined

-- the pass that marking begins with counted what it won
pub HasCountedAll-first : (view : View) {workers start : ℕ} → view ≡ first_view workers start → HasCountedAll view
HasCountedAll-first view is = subst HasCountedAll (sym is) (λ object won. won)

-- a new part has won nothing
HasCountedAll-part : (weight : ℕ) → HasCountedAll (part_of weight)
HasCountedAll-part weight = λ object won. absurd (omega arith)

-- two passes that are joined counted what both won
HasCountedAll-joined : (view other : View) → HasCountedAll view → HasCountedAll other → HasCountedAll (joined view other)
HasCountedAll-joined view other all its = λ object won.
    elim (times-in_two object view.won other.won won) [
      | inl won ↦ omega (arith, all object won, times-append object view.counted other.counted)
      | inr won ↦ omega (arith, its object won, times-append object view.counted other.counted)
    ]

-- a pass that was split counted all that it won when its parts are joined again, whatever each did in between
pub HasCountedAll-rejoined : (whole first second third fourth both : HeldPass) (weight : ℕ) → HasCountedAll whole.view
    → first ≡ knowing whole (kept_of weight whole.view) → second ≡ knowing whole (part_of weight) → IsLater first third
    → IsLater second fourth → both ≡ knowing third (joined third.view fourth.view) → HasCountedAll both.view
HasCountedAll-rejoined whole first second third fourth both weight all kept part its other joins =
    let Counted : HeldPass → Type 0 = λ pass. HasCountedAll pass.view in
    let one = its.counts (subst Counted (sym kept) all) in
    let two = other.counts (subst Counted (sym part) (HasCountedAll-part weight)) in
    subst Counted (sym joins) (HasCountedAll-joined third.view fourth.view one two)

-- ---- targets that were claimed

module _ (old new : HeldPass) (edges : OutEdges) (slot : Slot) where
  abbrev IsNamed : ℕ → Type 0
  IsNamed object = edge_target edges slot ≡ Some object

  -- the target of a slot was claimed, and was not won
  pub ClaimsTargets-slot : (answer : Claim) → ((found : ℕ) → answer ≢ Won found)
      → IsClaim (edge_target edges slot) old new answer → ClaimsTargets IsNamed old new
  ClaimsTargets-slot answer not_won claim =
      record {
        later = IsClaim-later old new answer not_won (edge_target edges slot) claim;
        targets = λ object names.
            IsClaim-sees old new answer not_won object (subst (λ (n : Option ℕ). IsClaim n old new answer) names claim);
      }

  -- what was won is counted
  pub ClaimsTargets-won : (found : ℕ) (third : HeldPass) → IsClaim (edge_target edges slot) old new (Won found)
      → third ≡ knowing new (counted found new.view) → ClaimsTargets IsNamed old third
  ClaimsTargets-won found third claim step =
      let names = (IsClaim-won old new (edge_target edges slot) found claim).0 in
      let both = IsClaim-counted old new (edge_target edges slot) found third claim step in
      record {
        later = both.1;
        targets = λ object named. let same : Some found ≡ Some object = sym names ∙ named in
            let e : found ≡ object = cc in subst (HasSeen third.view) e both.0;
      }

-- targets that were claimed, and then more of them
pub ClaimsTargets-then : (First Second Both : ℕ → Type 0) (first second third : HeldPass)
    → ((object : ℕ) → Both object → First object ⊎ Second object) → ClaimsTargets First first second
    → ClaimsTargets Second second third → ClaimsTargets Both first third
ClaimsTargets-then First Second Both first second third either some more =
    record {
      later = IsLater-then first second third some.later more.later;
      targets = λ object is. sees object (either object is);
    }
  where
    sees : (object : ℕ) → First object ⊎ Second object → HasSeen third.view object
    sees object (inl one) = more.later.keeps object (some.targets object one)
    sees object (inr one) = more.targets object one

-- targets by other words
pub ClaimsTargets-of : (These Those : ℕ → Type 0) (old new : HeldPass) → ((object : ℕ) → Those object → These object)
    → ClaimsTargets These old new → ClaimsTargets Those old new
ClaimsTargets-of These Those old new are some =
    record { later = some.later; targets = λ object is. some.targets object (are object is) }

-- the object is made black
pub ClaimsTargets-blackened : (IsTarget : ℕ → Type 0) (object : ℕ) (first second third : HeldPass)
    → third ≡ knowing second (blackened object second.view) → ClaimsTargets IsTarget first second
    → ClaimsTargets IsTarget first third
ClaimsTargets-blackened IsTarget object first second third step some =
    subst (λ (p : HeldPass). ClaimsTargets IsTarget first p) (sym step)
    (record {
      later = record {
        table = some.later.table;
        workers = some.later.workers;
        weight = some.later.weight;
        keeps = some.later.keeps;
        counts = some.later.counts;
      };
      targets = some.targets;
    })

-- an object that was won and counted is added to a list
pub AreSeen-won : (count : ℕ) (old new third : HeldPass) (named : Option ℕ) (found : ℕ) (list : List ℕ)
    → IsClaim named old new (Won found)
    → third ≡ knowing new (counted found new.view) → found < count → AreSeen count old.view list
    → AreSeen count third.view (list ++ found ∷ [])
AreSeen-won count old new third named found list claim step inside listed =
    let both = IsClaim-counted old new named found third claim step in
    All-push (λ object. (object < count) × HasSeen third.view object) list found
    (AreSeen-later count old third list both.1 listed) (inside, both.0)

-- a pass that knows an object to be black has seen what it had seen
pub AreSeen-blackened : (count object : ℕ) (old new : HeldPass) (list : List ℕ) → new ≡ knowing old (blackened object old.view)
    → AreSeen count old.view list → AreSeen count new.view list
AreSeen-blackened count object old new list step listed =
    subst (λ (p : HeldPass). AreSeen count p.view list) (sym step) listed
