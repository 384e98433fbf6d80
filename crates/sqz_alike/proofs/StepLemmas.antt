-- Steps of a walk through two images.
-- Serves `objects::slot_matches`, `::slots_match`, `::objects_match` and `alikeness::compare`.
use Rattle.std.proofs.Common.{◌≡◌, ◌≢◌, ℕ, Bool, true, false, eqb, List, [], ◌++◌, Option, Some, None, refl, sym, ap, subst, ◌∙◌, inl, inr}
use Rattle.std.specs.Option.{option_eq}
use Rattle.std.specs.Prelude.{Contains}
use Rattle.std.proofs.lemmas.Bool.{eqb-true, eqb-false}
use Rattle.std.proofs.lemmas.List.{append-nil, append_assoc}
use Rattle.std.proofs.lemmas.List.Elements.{Contains-append_left, Contains-append_cases}
use Rattle.std.proofs.lemmas.Option.{none-some, same_Some}
use Rattle.sqz_image.specs.declared.slot.Slot.{Slot}
use Rattle.sqz_image.specs.Objects.{chunk_words}
use Rattle.sqz_trace.specs.Slots.{slot_word}
use Rattle.sqz_alike.specs.declared.matching.Pair.{Pair}
use Rattle.sqz_alike.specs.Alike.{SlotsMatch, SlotMatches}
use Rattle.sqz_alike.specs.FirstDifference.{AreAmong, Never}
use Rattle.sqz_alike.specs.Seen.{Seen, seen_target}
use Rattle.sqz_alike.specs.Matching.{Joins}
use Rattle.sqz_alike.specs.Walk.{Finds}

-- ---- slots that match

module _ (word other : Option ℕ) where
  pub SlotsMatch-at_some : (pairs : List Pair) (one two : Option ℕ) (a b : ℕ) → one ≡ Some a → two ≡ Some b
      → SlotsMatch pairs one two word other → Contains pairs record { old = a; new = b }
  SlotsMatch-at_some pairs one two a b e f m =
      subst (λ (z : Option ℕ). SlotsMatch pairs (Some a) z word other) f
      (subst (λ (z : Option ℕ). SlotsMatch pairs z two word other) e m)

  pub SlotsMatch-some : (pairs : List Pair) (one two : Option ℕ) (a b : ℕ) → one ≡ Some a → two ≡ Some b
      → Contains pairs record { old = a; new = b } → SlotsMatch pairs one two word other
  SlotsMatch-some pairs one two a b e f c =
      subst (λ (z : Option ℕ). SlotsMatch pairs z two word other) (sym e)
      (subst (λ (z : Option ℕ). SlotsMatch pairs (Some a) z word other) (sym f) c)

  pub SlotsMatch-at_none : (pairs : List Pair) (one two : Option ℕ) → one ≡ None → two ≡ None
      → SlotsMatch pairs one two word other → word ≡ other
  SlotsMatch-at_none pairs one two e f m =
      subst (λ (z : Option ℕ). SlotsMatch pairs None z word other) f
      (subst (λ (z : Option ℕ). SlotsMatch pairs z two word other) e m)

  pub SlotsMatch-none : (pairs : List Pair) (one two : Option ℕ) → one ≡ None → two ≡ None → word ≡ other
      → SlotsMatch pairs one two word other
  SlotsMatch-none pairs one two e f same =
      subst (λ (z : Option ℕ). SlotsMatch pairs z two word other) (sym e)
      (subst (λ (z : Option ℕ). SlotsMatch pairs None z word other) (sym f) same)

  pub SlotsMatch-left : (pairs : List Pair) (one two : Option ℕ) (a : ℕ) → one ≡ Some a → two ≡ None
      → SlotsMatch pairs one two word other → ⊥
  SlotsMatch-left pairs one two a e f m =
      subst (λ (z : Option ℕ). SlotsMatch pairs (Some a) z word other) f
      (subst (λ (z : Option ℕ). SlotsMatch pairs z two word other) e m)

  pub SlotsMatch-right : (pairs : List Pair) (one two : Option ℕ) (b : ℕ) → one ≡ None → two ≡ Some b
      → SlotsMatch pairs one two word other → ⊥
  SlotsMatch-right pairs one two b e f m =
      subst (λ (z : Option ℕ). SlotsMatch pairs None z word other) f
      (subst (λ (z : Option ℕ). SlotsMatch pairs z two word other) e m)

  pub SlotsMatch-more : (pairs more : List Pair) → AreAmong pairs more → (one two : Option ℕ)
      → SlotsMatch pairs one two word other → SlotsMatch more one two word other
  SlotsMatch-more pairs more among (Some a) (Some b) m = among record { old = a; new = b } m
  SlotsMatch-more pairs more among (Some a) None m = m
  SlotsMatch-more pairs more among None (Some b) m = m
  SlotsMatch-more pairs more among None None m = m

-- ---- words that are the same, or not

pub option_eq-true : (one other : Option ℕ) → option_eq eqb one other ≡ true → one ≡ other
option_eq-true (Some a) (Some b) e = ap (λ (n : ℕ). Some n) (eqb-true a b e)
option_eq-true (Some a) None e = absurd cc
option_eq-true None (Some b) e = absurd cc
option_eq-true None None e = refl

pub option_eq-false : (one other : Option ℕ) → option_eq eqb one other ≡ false → one ≢ other
option_eq-false (Some a) (Some b) e same = eqb-false a b e (same_Some a b same)
option_eq-false (Some a) None e same = none-some a (sym same)
option_eq-false None (Some b) e same = none-some b same
option_eq-false None None e same = absurd cc

-- ---- steps

module _ {Holds : List Pair → Type 0} where
  -- a step that adds nothing
  pub Finds-none : (pairs : List Pair) (found : Bool) → (found ≡ true → Holds pairs) → (found ≡ false → Never Holds pairs)
      → Finds Holds pairs pairs found
  Finds-none pairs found holds never =
      record { added = []; more = sym (append-nil pairs); forced = λ all among is. among; holds = holds; never = never }

  pub Finds-never : (pairs : List Pair) → Never Holds pairs → Finds Holds pairs pairs false
  Finds-never pairs never = Finds-none pairs false (λ e. absurd cc) (λ e. never)

  pub AreAmong-finds : {a b : List Pair} {found : Bool} → Finds Holds a b found → AreAmong a b
  AreAmong-finds {a} finds pair in_a =
      subst (λ (xs : List Pair). Contains xs pair) (sym finds.more) (Contains-append_left a finds.added pair in_a)

-- a step after another: of both, if the second finds what holds, and never, if it does not
pub Finds-then : {First Second Both : List Pair → Type 0} {a b c : List Pair} {one found : Bool} → Finds First a b one
    → Finds Second b c found → ((all : List Pair) → Both all → First all) → ((all : List Pair) → Both all → Second all)
    → (found ≡ true → Second c → Both c) → Finds Both a c found
Finds-then {a} first second to_first to_second both =
    record {
      added = first.added ++ second.added;
      more = second.more ∙ ap (λ (xs : List Pair). xs ++ second.added) first.more ∙ append_assoc a first.added second.added;
      forced = λ all among is. second.forced all (first.forced all among (to_first all is)) (to_second all is);
      holds = λ e. both e (second.holds e);
      never = λ e all once among is.
          second.never e all once (first.forced all among (to_first all is)) (to_second all is);
    }

-- ---- one slot of a pair

module _ (old new : Seen) (pair : Pair) (slot : Slot) (before : List Pair) where
  abbrev Matches : List Pair → Type 0
  Matches pairs = SlotMatches old new pairs pair slot

  abbrev target_old : Option ℕ
  target_old = seen_target old pair.old slot

  abbrev target_new : Option ℕ
  target_new = seen_target new pair.new slot

  abbrev word_old : Option ℕ
  word_old = slot_word (chunk_words old.memory pair.old) slot

  abbrev word_new : Option ℕ
  word_new = slot_word (chunk_words new.memory pair.new) slot

  module _ (a b : ℕ) (old_is : target_old ≡ Some a) (new_is : target_new ≡ Some b) where
    abbrev found_pair : Pair
    found_pair = record { old = a; new = b }

    paired_in : (all : List Pair) → Matches all → Contains all found_pair
    paired_in all is = SlotsMatch-at_some word_old word_new all target_old target_new a b old_is new_is is

    pub slot_joins : (after : List Pair) (joined : Bool) → Joins found_pair before after joined → Finds Matches before after joined
    slot_joins after joined joins =
        record {
          added = joins.added;
          more = joins.more;
          forced = λ all among is other in_after.
              elim (Contains-append_cases before joins.added other (subst (λ (xs : List Pair). Contains xs other) joins.more in_after)) [
                | inl early ↦ among other early
                | inr late ↦ subst (λ (p : Pair). Contains all p) (sym (joins.only other late)) (paired_in all is)
              ];
          holds = λ e. SlotsMatch-some word_old word_new after target_old target_new a b old_is new_is (joins.paired e);
          never = λ e all once among is.
              let clash = joins.clashes e in
              let in_all = among clash.other clash.paired in
              elim clash.shared [
                | inl same ↦ clash.is_other (once.by_old clash.other found_pair in_all (paired_in all is) same)
                | inr same ↦ clash.is_other (once.by_new clash.other found_pair in_all (paired_in all is) same)
              ];
        }

  pub slot_words : target_old ≡ None → target_new ≡ None → (found : Bool)
      → (found ≡ true → word_old ≡ word_new) → (found ≡ false → word_old ≢ word_new) → Finds Matches before before found
  slot_words old_is new_is found same differ =
      Finds-none before found
      (λ e. SlotsMatch-none word_old word_new before target_old target_new old_is new_is (same e))
      (λ e all once among is.
      differ e (SlotsMatch-at_none word_old word_new all target_old target_new old_is new_is is))

  pub slot_left : (a : ℕ) → target_old ≡ Some a → target_new ≡ None → Finds Matches before before false
  slot_left a old_is new_is =
      Finds-never before (λ all once among is. SlotsMatch-left word_old word_new all target_old target_new a old_is new_is is)

  pub slot_right : (b : ℕ) → target_old ≡ None → target_new ≡ Some b → Finds Matches before before false
  slot_right b old_is new_is =
      Finds-never before (λ all once among is. SlotsMatch-right word_old word_new all target_old target_new b old_is new_is is)
