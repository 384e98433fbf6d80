-- A file has at most one compaction, is rejected with at most one fault, and not both.
-- Serves `laws::one_answer` and `laws::one_refusal`.
use Rattle.std.proofs.Common.{◌≡◌, ℕ, List, Bool, true, false, None, sym, ap, subst, ◌∙◌, inl, inr}
use Rattle.std.proofs.lemmas.Option.{none-some, same_Some}
use Rattle.std.proofs.lemmas.Bool.{false≢true}
use Rattle.sqz_object.specs.declared.order.Order.{Order}
use Rattle.sqz_object.specs.declared.chunk.ChunkFault.{ChunkFault}
use Rattle.sqz_object.proofs.PartitionLemmas.{IsStuck-unique}
use Rattle.sqz_image.specs.declared.fault.Fault.{Fault}
use Rattle.sqz_image.specs.Objects.{SavedImage, find}
use Rattle.sqz_image.specs.File.{image_bytes, data_of}
use Rattle.sqz_image.specs.Refusals.{refusal_of, Holds, HasNoPartition, HasUnreadableChunk}
use Rattle.sqz_image.specs.Refusals.{LacksSpecialObjects, IsUnreadable}
use Rattle.sqz_image.proofs.HoldsLemmas.{HasChunks-unique, HasChunks-readable, Holds-unique, Holds-readable, no_header_fault}
use Rattle.sqz_trace.specs.declared.weak.Weak.{Weak}
use Rattle.sqz_trace.specs.Reachability.{IsReachability}
use Rattle.sqz_trace.specs.Defects.{first_defect, lacks_nil}
use Rattle.sqz_trace.proofs.ReachabilityLemmas.{IsReachability-unique}
use Rattle.sqz_tool.specs.Verdict.{IsAccepted, IsRefused}

pub IsAccepted-unique : (weak : Weak) (file : List ℕ) (one other : SavedImage) (marks flags : List Bool)
    → IsAccepted weak file one marks → IsAccepted weak file other flags → (one ≡ other) × (marks ≡ flags)
IsAccepted-unique weak file one other marks flags p q =
    let same = Holds-unique file one other p.holds q.holds in (
      same,
      IsReachability-unique other.memory weak marks flags
          (subst (λ (i : SavedImage). IsReachability i.memory weak marks) same p.reachable) q.reachable,
    )

module _ (file : List ℕ) where
  -- ---- one refusal of each kind

  same_refusal : (p q : ℕ) (f g : ChunkFault) → (p ≡ q) × (f ≡ g) → refusal_of f p ≡ refusal_of g q
  same_refusal p q f g (place, reason) = ap (refusal_of f) place ∙ ap (λ (r : ChunkFault). refusal_of r q) reason

  HasUnreadableChunk-unique : (one other : Fault) → HasUnreadableChunk file one → HasUnreadableChunk file other → one ≡ other
  HasUnreadableChunk-unique one other p q =
      let same : q.order ≡ p.order = same_Some _ _ (sym q.in_order ∙ p.in_order) in
      let first = p.unreadable in
      let bytes = image_bytes file in
      let second = subst (λ (o : Order). HasNoPartition (data_of o bytes) other) same q.unreadable in
      first.refused
      ∙ same_refusal first.word second.word first.reason second.reason
      (IsStuck-unique (data_of p.order bytes) first.word second.word first.reason second.reason
      first.stuck second.stuck)
      ∙ sym second.refused

  IsUnreadable-unique : (one other : Fault) → IsUnreadable file one → IsUnreadable file other → one ≡ other
  IsUnreadable-unique one other (inl p) (inl q) = same_Some one other (sym p ∙ q)
  IsUnreadable-unique one other (inl p) (inr (inl q)) = absurd (no_header_fault file one q.sound p)
  IsUnreadable-unique one other (inl p) (inr (inr q)) = absurd (no_header_fault file one q.parts.sound p)
  IsUnreadable-unique one other (inr (inl p)) (inl q) = absurd (no_header_fault file other p.sound q)
  IsUnreadable-unique one other (inr (inl p)) (inr (inl q)) = HasUnreadableChunk-unique one other p q
  IsUnreadable-unique one other (inr (inl p)) (inr (inr q)) = absurd (HasChunks-readable file q.image one q.parts p)
  IsUnreadable-unique one other (inr (inr p)) (inl q) = absurd (no_header_fault file other p.parts.sound q)
  IsUnreadable-unique one other (inr (inr p)) (inr (inl q)) = absurd (HasChunks-readable file p.image other p.parts q)
  IsUnreadable-unique one other (inr (inr p)) (inr (inr q)) = p.refused ∙ sym q.refused

  module _ (weak : Weak) where
    -- ---- what an image that it holds is refused for

    -- a nil that there is
    no_nil_fault : (one other : SavedImage) → Holds file one → Holds file other → lacks_nil one.memory weak ≡ true
        → lacks_nil other.memory weak ≡ false → ⊥
    no_nil_fault one other p q lacks has =
        let same : one ≡ other = Holds-unique file one other p q in
        false≢true (sym has ∙ ap (λ (i : SavedImage). lacks_nil i.memory weak) (sym same) ∙ lacks)

    -- one first defect
    first_defect-same : (one other : SavedImage) (marks flags : List Bool) → Holds file one → Holds file other
        → IsReachability one.memory weak marks → IsReachability other.memory weak flags
        → first_defect one.memory weak marks ≡ first_defect other.memory weak flags
    first_defect-same one other marks flags p q reachable others =
        let same : one ≡ other = Holds-unique file one other p q in
        ap (λ (i : SavedImage). first_defect i.memory weak marks) same
        ∙ ap (first_defect other.memory weak)
        (IsReachability-unique other.memory weak marks flags
        (subst (λ (i : SavedImage). IsReachability i.memory weak marks) same reachable) others)

    -- a file has one refusal at most
    pub IsRefused-unique : (one other : Fault) → IsRefused weak file one → IsRefused weak file other → one ≡ other
    IsRefused-unique one other (inl p) (inl q) = IsUnreadable-unique one other p q
    IsRefused-unique one other (inl p) (inr (inl q)) = absurd (Holds-readable file q.image one q.holds p)
    IsRefused-unique one other (inl p) (inr (inr q)) = absurd (Holds-readable file q.image one q.holds p)
    IsRefused-unique one other (inr (inl p)) (inl q) = absurd (Holds-readable file p.image other p.holds q)
    IsRefused-unique one other (inr (inl p)) (inr (inl q)) = p.refused ∙ sym q.refused
    IsRefused-unique one other (inr (inl p)) (inr (inr q)) = absurd (no_nil_fault p.image q.image p.holds q.holds p.lacks q.has_nil)
    IsRefused-unique one other (inr (inr p)) (inl q) = absurd (Holds-readable file p.image other p.holds q)
    IsRefused-unique one other (inr (inr p)) (inr (inl q)) = absurd (no_nil_fault q.image p.image q.holds p.holds q.lacks p.has_nil)
    IsRefused-unique one other (inr (inr p)) (inr (inr q)) =
        same_Some one other
        (sym p.defect ∙ first_defect-same p.image q.image p.marks q.marks p.holds q.holds p.reachable q.reachable ∙ q.defect)

    -- and none where it is accepted
    pub IsRefused-not_accepted : (fault : Fault) (image : SavedImage) (marks : List Bool) → IsRefused weak file fault
        → IsAccepted weak file image marks → ⊥
    IsRefused-not_accepted fault image marks (inl p) accepted = Holds-readable file image fault accepted.holds p
    IsRefused-not_accepted fault image marks (inr (inl p)) accepted =
        no_nil_fault p.image image p.holds accepted.holds p.lacks accepted.has_nil
    IsRefused-not_accepted fault image marks (inr (inr p)) accepted =
        none-some fault
        (sym accepted.sound
        ∙ first_defect-same image p.image marks p.marks accepted.holds p.holds accepted.reachable p.reachable ∙ p.defect)
