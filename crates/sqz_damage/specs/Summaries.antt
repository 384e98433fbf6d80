-- What a repair keeps, and what it clears.
use Rattle.std.specs.Prelude.{◌≡◌, ℕ, ◌+◌, Bool, true, false, List, length}
use Rattle.std.specs.List.{count_by}
use Rattle.sqz_trace.specs.declared.weak.Weak.{Weak}
use Rattle.sqz_damage.specs.declared.dangling.patch.Becomes.{Becomes}
use Rattle.sqz_damage.specs.declared.dangling.patch.Becomes.TheVariants.{Nil, FreeChunk}
use Rattle.sqz_damage.specs.declared.dangling.patch.Patch.{Patch}
use Rattle.sqz_damage.specs.declared.mend.recovery.MendedFile.{MendedFile}
use Rattle.sqz_damage.specs.Recovery.{IsMendedFile}
use Rattle.sqz_damage.specs.declared.repaired.repairing.Repaired.{Repaired}
use Rattle.sqz_damage.specs.declared.repaired.summary.RepairSummary.{RepairSummary}
use Rattle.sqz_damage.specs.Repairs.{IsRepaired}

abbrev pub is_nil : Becomes → Bool
is_nil Nil = true
is_nil FreeChunk = false

-- whether a word becomes a pointer to nil
abbrev pub becomes_nil : Patch → Bool
becomes_nil patch = is_nil patch.becomes

-- the live sizes before and after a repair, and how many of its words become nil, or free chunks
pub record IsSummary (repaired : Repaired) (summary : RepairSummary) : Type 0 where
  pub before : summary.before ≡ repaired.before
  pub after : summary.after ≡ repaired.after
  pub pointers : summary.pointers ≡ count_by becomes_nil repaired.patches.items
  pub freed : summary.pointers + summary.freed ≡ length repaired.patches.items

-- the summary of the repair of the file
pub record IsSummaryOf (weak : Weak) (file : List ℕ) (summary : RepairSummary) : Type 0 where
  pub repaired : Repaired
  pub is_repaired : IsRepaired weak file repaired
  pub is_summary : IsSummary repaired summary

-- the summary of the repair of the file as it is mended
pub record IsSummaryOfMended (weak : Weak) (file : List ℕ) (summary : RepairSummary) : Type 0 where
  pub mended : MendedFile
  pub is_mended : IsMendedFile weak file mended
  pub of : IsSummaryOf weak mended.bytes.items summary
