-- What is found of a file.
-- Serves `repair`.
use Rattle.std.proofs.Common.{ℕ, List, inl}
use Rattle.sqz_trace.specs.declared.weak.Weak.{Weak}
use Rattle.sqz_damage.specs.declared.dangling.patch.Patch.{Patch}
use Rattle.sqz_damage.specs.Soundness.{IsSound}
use Rattle.sqz_damage.proofs.SoundnessLemmas.{HasFault-unsound}
use Rattle.sqz_damage.specs.declared.repaired.sizes.LiveSize.{LiveSize}
use Rattle.sqz_damage.specs.Repairs.{ArePatchesOf}

-- a file whose live objects have patches is not sound
pub ArePatchesOf-unsound : (weak : Weak) (file : List ℕ) (before : LiveSize) (patches : List Patch)
    → ArePatchesOf weak file before patches → IsSound weak file → ⊥
ArePatchesOf-unsound weak file before patches found sound =
    HasFault-unsound weak file found.fault
    (inl (record { image = found.image; holds = found.holds; marks = found.marks; reachable = found.reachable; fault = found.faulty }))
    sound
