-- A pass that repeats its sweep over the objects while it finds a grey one comes to an end, and
-- leaves none grey. Serves the functions of `remaining`, `scanning::scan_if_grey`,
-- `stealing::mark` and `marked::Marked::of_closed`.
use Rattle.std.proofs.Common.{◌≡◌, ◌≢◌, ℕ, zero, suc, ◌<◌, ◌≤◌, if◌then◌else◌, cond, eqb, ltb, Bool, List, length}
use Rattle.std.proofs.Common.{sum, refl, sym, ap, subst, ◌∙◌, arith, inl, inr, eq-eqb, ne_eqb}
use Rattle.std.proofs.lemmas.Bool.{cases_eq, cases_lt, lt-ltb}
use Rattle.std.proofs.lemmas.List.{get_or_past}
use Rattle.std.proofs.lemmas.Option.{same_Some}
use Rattle.sqz_image.specs.Objects.{Memory, object_count}
use Rattle.sqz_trace.specs.declared.shades.Shade.{Shade}
use Rattle.sqz_trace.specs.declared.shades.Shade.TheVariants.{White, Grey, Black}
use Rattle.sqz_trace.specs.Shades.{shade_at, marks_of}
use Rattle.sqz_trace.specs.Graph.{MarksReachable}
use Rattle.sqz_trace.specs.declared.weak.Weak.{Weak}
use Rattle.sqz_trace.specs.Reachability.{graph_from, IsReachability}
use Rattle.sqz_trace.proofs.LawLemmas.{MarksReachable-finished}
use Rattle.sqz_trace.proofs.ReachabilityLemmas.{MarksReachable-unique}
use Rattle.sqz_trace.proofs.ShadeLemmas.{white-grey, grey-black}
use Rattle.sqz_regions.proofs.ListedLemmas.{upto, upto-le}
use Rattle.sqz_marks.specs.declared.view.View.{View}
use Rattle.sqz_marks.specs.Core.{times, HasWon, HasBlackened, looked}
use Rattle.sqz_marks.specs.Table.{HeldPass, AreClosed, knowing}
use Rattle.sqz_marks.proofs.TimesLemmas.{times-same, zero-if_never}
use Rattle.sqz_workers.specs.Gains.{KeepsBlackened, IsBlackIfWon, HasScannedAll, HasBlackenedMore, IsPassedBy, HasGained, HasGainedSome, HasEnded}

-- 1 for none
abbrev one_if_none : ℕ → ℕ
one_if_none number = cond (eqb number 0) 1 0

-- 1 for an object that a pass does not know to be black
abbrev blank : View → ℕ → ℕ
blank view object = one_if_none (times object view.blackened)

-- how many of the objects below a number a pass does not know to be black
abbrev pub unblackened : View → ℕ → ℕ
unblackened view count = upto (blank view) count

module _ (old new : View) (keeps : KeepsBlackened old new) where
  blank-le : (object : ℕ) → blank new object ≤ blank old object
  blank-le object = by_times (times object old.blackened) (times object new.blackened) (keeps object)
    where
      none_if : (number : ℕ) → 0 < number → one_if_none number ≡ 0
      none_if number many = ap (λ b. cond b 1 0) (ne_eqb number 0 (λ is. absurd (omega (arith, is, many))))

      by_times : (before now : ℕ) → (0 < before → 0 < now) → one_if_none now ≤ one_if_none before
      by_times zero zero kept = omega arith
      by_times zero (suc now) kept = omega (arith, none_if (suc now) (omega arith))
      by_times (suc before) zero kept = absurd (let more = kept (omega arith) in omega (arith, more))
      by_times (suc before) (suc now) kept = omega (arith, none_if (suc now) (omega arith), none_if (suc before) (omega arith))

  lt-upto : (count object : ℕ) → object < count → times object old.blackened ≡ 0 → HasBlackened new object
      → unblackened new count < unblackened old count
  lt-upto zero object inside before now = absurd (omega arith)
  lt-upto (suc count) object inside before now =
      elim (cases_eq object count) [
        | inl same ↦
            (let one : blank old object ≡ 1 = ap (λ b. cond b 1 0) (eq-eqb (times object old.blackened) 0 before) in
            let none : blank new object ≡ 0 =
            ap (λ b. cond b 1 0) (ne_eqb (times object new.blackened) 0 (λ is. absurd (omega (arith, is, now)))) in
            let last_old = ap (blank old) same in let last_new = ap (blank new) same in
            omega (arith, upto-le (blank new) (blank old) blank-le count, one, none, last_old, last_new))
        | inr differs ↦ omega (arith, lt-upto count object (omega arith) before now, blank-le count)
      ]

  -- they are fewer if it came to know one more
  pub unblackened-lt : (count : ℕ) → HasBlackenedMore count old new → unblackened new count < unblackened old count
  unblackened-lt count more = lt-upto count more.object more.inside more.before more.now

-- what a pass came to know it still knows later, and had not known before
pub HasBlackenedMore-within : (count : ℕ) (first old new last : View) → KeepsBlackened first old → KeepsBlackened new last
    → HasBlackenedMore count old new → HasBlackenedMore count first last
HasBlackenedMore-within count first old new last before after more =
    record {
      object = more.object;
      inside = more.inside;
      before = zero-if_never (times more.object first.blackened)
          (λ known. absurd (let later = before more.object known in omega (arith, later, more.before)));
      now = after more.object more.now;
    }

-- a look at an object that is not grey
pub IsPassedBy-looked : (old new : HeldPass) (shade : Shade) (object : ℕ) → new ≡ knowing old (looked object shade old.view)
    → shade ≢ Grey → (HasWon old.view object → shade ≢ White) → IsPassedBy object old.view new.view
IsPassedBy-looked old new White object step other unwon =
    subst (λ (p : HeldPass). IsPassedBy object old.view p.view) (sym step)
    record { won = refl; black = λ won. absurd (unwon won refl) }
IsPassedBy-looked old new Grey object step other unwon = absurd (other refl)
IsPassedBy-looked old new Black object step other unwon =
    subst (λ (p : HeldPass). IsPassedBy object old.view p.view) (sym step)
    record { won = refl; black = λ won. omega (arith, times-same object old.view.blackened) }

-- a look at another object changes nothing of this
pub IsBlackIfWon-passed : (object other : ℕ) (old new : View) → IsPassedBy object old new → KeepsBlackened old new → IsBlackIfWon old other
    → IsBlackIfWon new other
IsBlackIfWon-passed object other old new passed keeps black won =
    keeps other (black (subst (λ (list : List ℕ). 0 < times other list) passed.won won))

-- if a pass that knows all has scanned each object, none is grey
pub none_grey : (memory : Memory) (weak : Weak) (view : View) (shades : List Shade) (count : ℕ)
    → AreClosed memory weak view shades → length shades ≡ count
    → HasScannedAll count view → (object : ℕ) → shade_at shades object ≢ Grey
none_grey memory weak view shades count closed sized scanned object =
    elim (cases_lt object count) [
      | inl lt ↦ (λ is. by_times (times object view.blackened) (times object view.won) (scanned object lt) (sym (closed.known object) ∙ is))
      | inr past ↦ (λ is. white-grey (sym (get_or_past shades object White (omega (arith, sized, past))) ∙ is))
    ]
  where
    by_times : (black won : ℕ) → (0 < won → 0 < black) → (if ltb 0 black then Black else (if ltb 0 won then Grey else White)) ≢ Grey
    by_times zero zero known is = white-grey is
    by_times zero (suc won) known is = absurd (let none = known (omega arith) in omega (arith, none))
    by_times (suc black) won known is =
        grey-black (sym is ∙ ap (λ b. if b then Black else (if ltb 0 won then Grey else White)) (lt-ltb 0 (suc black) (omega arith)))

-- what a closed table shows of its object memory
pub AreClosed-of : (view : View) (shades : List Shade) {from to : Memory} {old new : Weak} → from ≡ to → old ≡ new
    → AreClosed from old view shades → AreClosed to new view shades
AreClosed-of view shades {from} {to} {old} {new} memory weak closed =
    subst (λ (w : Weak). AreClosed to w view shades) weak (subst (λ (m : Memory). AreClosed m old view shades) memory closed)

-- what is known after the workers' turns, the scan of what they left grey, and the closing of the table
pub HasEnded-by : (memory : Memory) (weak : Weak) (first shared last : HeldPass) (won numbers : List ℕ) (shades : List Shade)
    → AreClosed memory weak last.view shades → HasScannedAll (object_count memory) last.view
    → HasGained first shared (sum won) → HasGainedSome shared last → numbers ≡ won → HasEnded memory weak numbers shades
HasEnded-by memory weak first shared last won numbers shades closed scanned all rest same =
    record {
      view = last.view;
      closed = closed;
      scanned = scanned;
      enough = omega (arith, rest.gained.won, all.won, ap sum same);
    }

-- so the marked objects are the reachable ones
pub marks_of-scanned : (memory : Memory) (weak : Weak) (view : View) (shades : List Shade) (marks : List Bool)
    → AreClosed memory weak view shades
    → HasScannedAll (object_count memory) view → IsReachability memory weak marks → marks_of shades ≡ marks
marks_of-scanned memory weak view shades marks closed scanned reachable =
    let graph = graph_from closed.lawful.start memory weak in
    let same : reachable.start ≡ closed.lawful.start = same_Some _ _ (sym reachable.is_special ∙ closed.lawful.is_special) in
    MarksReachable-unique graph (marks_of shades) marks
    (MarksReachable-finished graph shades closed.lawful.lawful
    (none_grey memory weak view shades (object_count memory) closed closed.lawful.lawful.sized scanned))
    (subst (λ (start : ℕ). MarksReachable (graph_from start memory weak) marks) same reachable.reached)
