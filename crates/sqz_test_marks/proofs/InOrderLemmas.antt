-- What calls leave of a pass, step by step, and where the edges of an object with few fields lead.
-- Serves `in_order::claim_nil`, `::claim_first`, `::blacken_special` and `::mark_others`.
use Rattle.std.proofs.Common.{◌≡◌, ◌⊎◌, ℕ, ◌<◌, Option, Some, sym, ap, subst, ◌∙◌, arith, inl, inr}
use Rattle.std.proofs.lemmas.Bool.{cases_lt}
use Rattle.std.proofs.lemmas.Option.{same_Some}
use Rattle.sqz_image.specs.declared.slot.Slot.{Slot}
use Rattle.sqz_image.specs.declared.slot.Slot.TheVariants.{ClassWord, Field}
use Rattle.sqz_image.specs.Objects.{Memory, chunk_words}
use Rattle.sqz_trace.specs.declared.weak.Weak.{Weak}
use Rattle.sqz_trace.specs.Edges.{out_edges, strong_target, HasEdge}
use Rattle.sqz_trace.proofs.TargetLemmas.{named_among-cases}
use Rattle.sqz_trace.specs.declared.shades.Shade.{Shade}
use Rattle.sqz_marks.specs.declared.view.View.{View}
use Rattle.sqz_marks.specs.declared.claim.Claim.{Claim}
use Rattle.sqz_marks.specs.declared.claim.Claim.TheVariants.{Won, Seen, Nothing}
use Rattle.sqz_marks.specs.Core.{times, HasWon, HasSeen, looked, seen_by, won_by}
use Rattle.sqz_marks.specs.Table.{HeldPass, SharedMarks, IsPassOf, knowing}
use Rattle.sqz_marks.specs.Claims.{IsClaim}
use Rattle.sqz_test_marks.specs.InOrder.{HasFields}
use Rattle.sqz_test_marks.proofs.PassLemmas.{IsClaim-won, IsClaim-seen, IsClaim-nothing}

-- ---- steps

-- what a slot of an object points to, as the passes of a table follow it
abbrev pub class_of : SharedMarks → ℕ → Option ℕ
class_of marks object = strong_target marks.heap.memory marks.weak object ClassWord

abbrev pub field_of : SharedMarks → ℕ → ℕ → Option ℕ
field_of marks object k = strong_target marks.heap.memory marks.weak object (Field k)

module _ (first : HeldPass) where
  -- the pass knows this
  abbrev pub At : HeldPass → View → Type 0
  At pass view = pass ≡ knowing first view

  pub at-first : (view : View) → first.view ≡ view → At first view
  at-first view is = ap (knowing first) is

  module _ {pass : HeldPass} {view : View} (at : At pass view) where
    -- it is of the same table
    pub at-of : (marks : SharedMarks) → IsPassOf marks first → IsPassOf marks pass
    at-of marks of = subst (IsPassOf marks) (sym at) of

    -- what it has won, seen and not counted
    pub at-won : (object : ℕ) → HasWon view object → HasWon pass.view object
    at-won object won = subst (λ (it : HeldPass). HasWon it.view object) (sym at) won

    pub at-seen : (object : ℕ) → HasSeen view object → HasSeen pass.view object
    at-seen object seen = subst (λ (it : HeldPass). HasSeen it.view object) (sym at) seen

    pub at-new : (object : ℕ) → times object view.counted ≡ 0 → times object pass.view.counted ≡ 0
    at-new object new = subst (λ (it : HeldPass). times object it.view.counted ≡ 0) (sym at) new

    module _ (new : HeldPass) where
      -- after a step
      pub at-step : (step : View → View) → new ≡ knowing pass (step pass.view) → At new (step view)
      at-step step is = is ∙ ap (λ (it : HeldPass). knowing it (step it.view)) at

      -- after a look
      pub at-look : (object : ℕ) {found : Shade} (shade : Shade) → found ≡ shade
          → new ≡ knowing pass (looked object found pass.view) → At new (looked object shade view)
      at-look object shade same is =
          at-step (looked object shade) (subst (λ (it : Shade). new ≡ knowing pass (looked object it pass.view)) same is)

      module _ (named : Option ℕ) {answer : Claim} (claim : IsClaim named pass new answer) where
        -- after a claim that won an object
        pub at-win : (object : ℕ) → answer ≡ Won object → (named ≡ Some object) × At new (won_by object view)
        at-win object is =
            let won = IsClaim-won pass new named object (subst (IsClaim named pass new) is claim) in
            (won.0, at-step (won_by object) won.1)

        -- after one that saw it
        pub at-see : (object : ℕ) → answer ≡ Seen object → (named ≡ Some object) × At new (seen_by object view)
        at-see object is =
            let seen = IsClaim-seen pass new named object (subst (IsClaim named pass new) is claim) in
            (seen.0, at-step (seen_by object) seen.1)

        -- after one along a slot that points to no object
        pub at-none : answer ≡ Nothing → At new view
        at-none is = (IsClaim-nothing pass new named (subst (IsClaim named pass new) is claim)).1 ∙ at

-- ---- edges

module _ (memory : Memory) (weak : Weak) (object : ℕ) where
  -- an edge is by one of the fields, and not by the class word
  HasEdge-field : (fields : ℕ) → HasFields memory weak object fields → (index : ℕ) → HasEdge memory weak object index
      → (k : ℕ) × (k < fields) × (strong_target memory weak object (Field k) ≡ Some index)
  HasEdge-field fields has index edge = by_slot edge.slot edge.names
    where
      by_slot : (slot : Slot) → strong_target memory weak object slot ≡ Some index
          → (k : ℕ) × (k < fields) × (strong_target memory weak object (Field k) ≡ Some index)
      by_slot ClassWord names = absurd (cc (sym has.class ∙ names))
      by_slot (Field k) names =
          let words = chunk_words memory object in
          let inside = (named_among-cases memory words (out_edges memory weak object).strong k index names).0 in
          (k, omega (arith, inside, has.strong), names)

  -- an object without fields has no edge
  pub HasEdge-none : HasFields memory weak object 0 → (index : ℕ) → HasEdge memory weak object index → ⊥
  HasEdge-none has index edge = let found = HasEdge-field 0 has index edge in absurd (omega (arith, found.1))

  -- two edges by one field lead to one object
  same_target : (k first index : ℕ) → strong_target memory weak object (Field k) ≡ Some first
      → (j : ℕ) → j ≡ k → strong_target memory weak object (Field j) ≡ Some index → first ≡ index
  same_target k first index leads j same names =
      same_Some _ _ (sym leads ∙ ap (λ (i : ℕ). strong_target memory weak object (Field i)) (sym same) ∙ names)

  -- an edge by the only field leads where that does
  pub HasEdge-one : HasFields memory weak object 1 → (first index : ℕ)
      → strong_target memory weak object (Field 0) ≡ Some first
      → HasEdge memory weak object index → first ≡ index
  HasEdge-one has first index leads edge =
      let found = HasEdge-field 1 has index edge in
      same_target 0 first index leads found.0 (omega (arith, found.1)) found.2

  -- an edge by one of two fields leads where one of these does
  pub HasEdge-two : HasFields memory weak object 2 → (first second index : ℕ)
      → strong_target memory weak object (Field 0) ≡ Some first
      → strong_target memory weak object (Field 1) ≡ Some second
      → HasEdge memory weak object index → (first ≡ index) ⊎ (second ≡ index)
  HasEdge-two has first second index leads others edge =
      let found = HasEdge-field 2 has index edge in
      elim (cases_lt found.0 1) [
        | inl lt ↦ inl (same_target 0 first index leads found.0 (omega (arith, lt)) found.2)
        | inr ge ↦ inr (same_target 1 second index others found.0 (omega (arith, ge, found.1)) found.2)
      ]
