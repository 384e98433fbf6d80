-- What `mend` writes.
use Rattle.std.specs.Prelude.{◌≡◌, ◌≢◌, ℕ, Bool, true, false, List, [], Option}
use Rattle.sqz_image.specs.Devices.{SinkState, WritesWhole}
use Rattle.sqz_trace.specs.declared.weak.Weak.{Weak}
use Rattle.sqz_damage.specs.declared.mend.recovery.MendedFile.{MendedFile}
use Rattle.sqz_damage.specs.Recovery.{IsMendedFile}
use Rattle.sqz_damage.specs.declared.repaired.repairing.Repaired.{Repaired}
use Rattle.sqz_damage.specs.Repairs.{IsRepaired}
use Rattle.sqz_look_files.specs.Checks.{ReadsFile}

-- the bytes of a mended file after its pointers that lead nowhere became nil
pub record AreRepaired (weak : Weak) (mended bytes : List ℕ) : Type 0 where
  pub repaired : Repaired
  pub is_repaired : IsRepaired weak mended repaired
  pub same : bytes ≡ repaired.bytes.items

-- what is written of a mended file: all of it, or as it is repaired if that is asked for
pub record IsWritten (weak : Weak) (nil : Bool) (mended bytes : List ℕ) : Type 0 where
  pub plain : nil ≡ false → bytes ≡ mended
  pub repaired : nil ≡ true → AreRepaired weak mended bytes

-- some file was read, and is mended so
pub record ReadsMended {F : Type 0} (left : F → Option (List ℕ)) (weak : Weak) (mended : MendedFile) : Type 0 where
  pub file : List ℕ
  pub read : ReadsFile left file
  pub is_mended : IsMendedFile weak file mended

-- some file was read, and written as it is mended
pub record WritesMended {F : Type 0} (left : F → Option (List ℕ)) (weak : Weak) (nil : Bool) (old new : SinkState) : Type 0 where
  pub mended : MendedFile
  pub reads : ReadsMended left weak mended
  pub bytes : List ℕ
  pub asked : IsWritten weak nil mended.bytes.items bytes
  pub written : WritesWhole old new bytes

-- the mended file is repaired so that no pointer leads nowhere, by words that are written anew
pub record HasDangling (weak : Weak) (mended : List ℕ) : Type 0 where
  pub repaired : Repaired
  pub is_repaired : IsRepaired weak mended repaired
  pub some : repaired.patches.items ≢ []

-- some file was read in which, after it was mended, pointers lead nowhere
pub record ReadsDangling {F : Type 0} (left : F → Option (List ℕ)) (weak : Weak) : Type 0 where
  pub mended : MendedFile
  pub reads : ReadsMended left weak mended
  pub dangling : HasDangling weak mended.bytes.items
