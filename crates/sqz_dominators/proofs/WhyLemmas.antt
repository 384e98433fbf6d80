-- The steps of a path, one by one.
-- Serves `why::steps_of` and `why::why_kept`.
use Rattle.std.proofs.Common.{◌≡◌, ◌↔◌, ◌⊎◌, ℕ, suc, ◌+◌, ◌<◌, Bool, true, false, true≢false, List, [], ◌∷◌, ◌++◌}
use Rattle.std.proofs.Common.{length, get_or, take, Some, refl, sym, ap, subst, ◌∙◌, arith, inl, inr}
use Rattle.std.specs.Prelude.{nat_lt, is_none}
use Rattle.std.proofs.lemmas.Bool.{cases_Bool}
use Rattle.std.proofs.lemmas.List.{take_more}
use Rattle.std.proofs.lemmas.Option.{none-some, same_Some}
use Rattle.sqz_image.specs.declared.slot.Slot.{Slot}
use Rattle.sqz_image.specs.declared.slot.Slot.TheVariants.{ClassWord, Field}
use Rattle.sqz_image.specs.Objects.{Memory, object_count, chunk_words}
use Rattle.sqz_image.proofs.HeapLemmas.{found_is_object}
use Rattle.sqz_trace.specs.declared.weak.Weak.{Weak}
use Rattle.sqz_trace.specs.declared.weak.Weak.TheVariants.{Clear}
use Rattle.sqz_trace.specs.Edges.{out_edges}
use Rattle.sqz_trace.specs.Graph.{Leads, IsReachable}
use Rattle.sqz_trace.specs.Reachability.{graph_from}
use Rattle.sqz_trace.specs.Targets.{named_among}
use Rattle.sqz_dominators.specs.Paths.{LeadsBySlots, objects_on, IsShortestPath, IsUnreachable}
use Rattle.sqz_dominators.proofs.TargetLemmas.{strong_target-lt}
use Rattle.sqz_dominators.specs.declared.path.Step.{Step}
use Rattle.sqz_dominators.specs.Retained.{DominatorTree}
use Rattle.sqz_dominators.specs.declared.why.WhyStep.{WhyStep}
use Rattle.sqz_dominators.specs.Why.{AreStrong, why_step, why_steps}

-- the object to which steps from an object lead
abbrev pub end_of : ℕ → List Step → ℕ
end_of start [] = start
end_of start (step ∷ steps) = end_of step.object steps

end_of-push : (start : ℕ) (steps : List Step) (last : Step) → end_of start (steps ++ last ∷ []) ≡ last.object
end_of-push start [] last = refl
end_of-push start (step ∷ steps) last = end_of-push step.object steps last

why_steps-push : (memory : Memory) (tree : DominatorTree) (start : ℕ) (steps : List Step) (last : Step)
    → why_steps memory tree start (steps ++ last ∷ [])
    ≡ why_steps memory tree start steps ++ why_step memory tree (end_of start steps) last ∷ []
why_steps-push memory tree start [] last = refl
why_steps-push memory tree start (step ∷ steps) last =
    ap (λ rows. why_step memory tree start step ∷ rows) (why_steps-push memory tree step.object steps last)

module _ (start : ℕ) (steps : List Step) (i : ℕ) (d : Step) (lt : i < length steps) where
  -- one step further
  pub end_of-more : end_of start (take (i + 1) steps) ≡ (get_or steps i d).object
  end_of-more = ap (end_of start) (take_more steps i d lt) ∙ end_of-push start (take i steps) (get_or steps i d)

  pub why_steps-more : (memory : Memory) (tree : DominatorTree) (owner : ℕ) (row : WhyStep) (rows : List WhyStep)
      → owner ≡ end_of start (take i steps) → row ≡ why_step memory tree owner (get_or steps i d)
      → rows ≡ why_steps memory tree start (take i steps)
      → rows ++ row ∷ [] ≡ why_steps memory tree start (take (i + 1) steps)
  why_steps-more memory tree owner row rows owner_is row_is rows_are =
      (λ j. rows_are j ++ (row_is ∙ ap (λ (o : ℕ). why_step memory tree o (get_or steps i d)) owner_is) j ∷ [])
      ∙ sym (why_steps-push memory tree start (take i steps) (get_or steps i d))
      ∙ ap (why_steps memory tree start) (sym (take_more steps i d lt))

-- a row with the same flag and the same bytes
pub same_step : (step : WhyStep) (weak : Bool) (bytes : ℕ) → step.is_weak ≡ weak → step.retained ≡ bytes
    → step ≡ record step { is_weak = weak; retained = bytes }
same_step step weak bytes p q = λ i. record { slot = step.slot; is_weak = p i; object = step.object; retained = q i }

-- ---- a path without weak steps

-- a slot that points to an object does so however many fields are strong, if it is strong
named-among : (memory : Memory) (count other : ℕ) (chunk : List ℕ) (slot : Slot) (object : ℕ)
    → named_among memory count chunk slot ≡ Some object → is_none (named_among memory other chunk slot) ≡ false
    → named_among memory other chunk slot ≡ Some object
named-among memory count other chunk ClassWord object is strong = is
named-among memory count other chunk (Field index) object is strong =
    elim (cases_Bool (nat_lt index count)) [
      | inl within ↦
          elim (cases_Bool (nat_lt index other)) [
            | inl inside ↦ rw inside (rw within at is)
            | inr outside ↦ absurd (true≢false (rw outside at strong))
          ]
      | inr past ↦ absurd (none-some object (rw past at is))
    ]

-- steps none of which is weak are a path if weak slots are cleared
pub Leads-strong : (memory : Memory) (weak : Weak) (tree : DominatorTree) (start from : ℕ) (steps : List Step) (goal : ℕ)
    → from < object_count memory → LeadsBySlots memory weak from steps goal → AreStrong (why_steps memory tree from steps)
    → Leads (graph_from start memory Clear) from (objects_on steps) goal
Leads-strong memory weak tree start from [] goal inside same strong = same
Leads-strong memory weak tree start from (step ∷ steps) goal inside by_slots strong =
    let is = by_slots.0.names in
    let names = named-among memory (out_edges memory weak from).strong (out_edges memory Clear from).strong
    (chunk_words memory from) step.slot step.object is (strong 0 (why_step memory tree from step) (omega arith)) in (
      record { inside = inside; slot = step.slot; names = names },
      Leads-strong memory weak tree start step.object steps goal
          (strong_target-lt memory weak from step.slot step.object is) by_slots.1 (λ k d lt. strong (suc k) d (omega arith)),
    )

-- whether each path to an object has a weak step, if one is known
pub weakly-held : (memory : Memory) (weak : Weak) (tree : DominatorTree) (object : ℕ) (steps : List Step) (rows : List WhyStep) (weakly : Bool)
    → (shortest : IsShortestPath memory weak object steps) → rows ≡ why_steps memory tree shortest.start steps
    → ((weakly ≡ false) × AreStrong rows) ⊎ ((weakly ≡ true) ↔ IsUnreachable memory Clear object)
    → (weakly ≡ true) ↔ IsUnreachable memory Clear object
weakly-held memory weak tree object steps rows weakly shortest are (inr known) = known
weakly-held memory weak tree object steps rows weakly shortest are (inl (is, strong)) = (
  λ yes. absurd (true≢false (sym yes ∙ is)),
  λ unreachable.
      let start : shortest.start ≡ unreachable.start = same_Some _ _ (sym shortest.is_special ∙ unreachable.is_special) in
      let leads = Leads-strong memory weak tree shortest.start shortest.start steps object
      (found_is_object {view = memory} shortest.start refl shortest.is_special) shortest.by_slots (subst AreStrong are strong) in
      absurd (unreachable.none (subst (λ (s : ℕ). IsReachable (graph_from s memory Clear) object) start
      record { path = objects_on steps; leads = leads })),
)
