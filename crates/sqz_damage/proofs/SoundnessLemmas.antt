-- A file with a fault is not sound.
-- Serves `damage_of` and `repair`.
use Rattle.std.proofs.Common.{◌≡◌, ℕ, List, sym, ap, subst, ◌∙◌, inl, inr}
use Rattle.std.proofs.Math.Logic.{∥∥₁_elim}
use Rattle.std.proofs.lemmas.Option.{none-some}
use Rattle.sqz_image.specs.declared.fault.Fault.{Fault}
use Rattle.sqz_image.specs.Objects.{SavedImage}
use Rattle.sqz_image.proofs.HoldsLemmas.{Holds-unique, Holds-readable}
use Rattle.sqz_trace.specs.declared.weak.Weak.{Weak}
use Rattle.sqz_trace.specs.Faults.{first_fault}
use Rattle.sqz_trace.specs.Reachability.{IsReachability}
use Rattle.sqz_trace.proofs.ReachabilityLemmas.{IsReachability-unique}
use Rattle.sqz_damage.specs.Soundness.{HasFault, IsSound}

pub HasFault-unsound : (weak : Weak) (file : List ℕ) (fault : Fault) → HasFault weak file fault → IsSound weak file → ⊥
HasFault-unsound weak file fault (inl p) q =
    ∥∥₁_elim p.reachable (λ x. absurd x)
    (λ one. ∥∥₁_elim q.reachable (λ x. absurd x) (λ other.
    let image : p.image ≡ q.image = Holds-unique file p.image q.image p.holds q.holds in
    let marks : p.marks ≡ q.marks =
    IsReachability-unique q.image.memory weak p.marks q.marks
    (subst (λ (i : SavedImage). IsReachability i.memory weak p.marks) image one) other in
    none-some fault
    (sym q.fault
    ∙ sym (ap (first_fault q.image.memory weak) marks)
    ∙ sym (ap (λ (i : SavedImage). first_fault i.memory weak p.marks) image)
    ∙ p.fault)))
HasFault-unsound weak file fault (inr p) q = Holds-readable file q.image fault q.holds p
