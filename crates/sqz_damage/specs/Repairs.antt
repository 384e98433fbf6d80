-- Files in which no pointer of a live object leads nowhere.
use Rattle.std.specs.Prelude.{◌≡◌, ◌⊎◌, ℕ, ◌+◌, ◌*◌, ◌<◌, Bool, List, [], length, take, drop, All, Some, MatchOption}
use Rattle.std.specs.List.{concat}
use Rattle.sqz_object.specs.Bytes.{words_of}
use Rattle.sqz_image.specs.declared.fault.Fault.{Fault}
use Rattle.sqz_image.specs.declared.header.Header.{Header}
use Rattle.sqz_image.specs.Objects.{SavedImage}
use Rattle.sqz_image.specs.Refusals.{Holds, IsUnreadable}
use Rattle.sqz_trace.specs.declared.weak.Weak.{Weak}
use Rattle.sqz_trace.specs.Faults.{first_fault}
use Rattle.sqz_trace.specs.Reachability.{IsReachability}
use Rattle.sqz_damage.specs.declared.dangling.patch.Patch.{Patch}
use Rattle.sqz_damage.specs.declared.dangling.nil_error.NilError.{NilError}
use Rattle.sqz_damage.specs.declared.dangling.nil_error.NilError.TheVariants as nil_errors
use Rattle.sqz_damage.specs.Patches.{AreNilPatches, IsNilError, patched}
use Rattle.sqz_damage.specs.Damaged.{HasSoundWords, data_offset, words_there}
use Rattle.sqz_damage.specs.Soundness.{HasFault}
use Rattle.sqz_damage.specs.declared.repaired.reading.Finding.{Finding}
use Rattle.sqz_damage.specs.declared.repaired.repairing.Repaired.{Repaired}
use Rattle.sqz_damage.specs.declared.repaired.repairing.RepairError.{RepairError}
use Rattle.sqz_damage.specs.declared.repaired.repairing.RepairError.TheVariants.{OutOfMemory, NoImage, NoNil, NoSpecialObjects, Unsound}
use Rattle.sqz_damage.specs.declared.repaired.sizes.LiveSize.{LiveSize}
use Rattle.sqz_damage.specs.Sizes.{IsLiveSize, IsSoundWith}

-- the image that the file holds has a fault, so much of it is live, and its live objects have these
-- patches
pub record ArePatchesOf (weak : Weak) (file : List ℕ) (before : LiveSize) (patches : List Patch) : Type 0 where
  pub image : SavedImage
  pub holds : Holds file image
  pub marks : List Bool
  pub reachable : ∥ IsReachability image.memory weak marks ∥₁
  pub size : IsLiveSize image.memory marks before
  pub fault : Fault
  pub faulty : first_fault image.memory weak marks ≡ Some fault
  pub exact : AreNilPatches image.memory weak marks patches
  pub inside : All (λ patch. patch.word < length (concat image.memory.chunks)) patches

-- what is found of a file that holds an image: it has no fault, or these patches
abbrev pub IsFinding : Weak → List ℕ → Finding → Type 0
IsFinding weak file finding =
    MatchOption finding.patches (IsSoundWith weak file finding.size)
    (λ patches. ArePatchesOf weak file finding.size patches.items)

-- the file with these patches in its data words, and all other bytes as they were
pub record ArePatched (file : List ℕ) (header : Header) (patches : List Patch) (bytes : List ℕ) : Type 0 where
  pub sized : length bytes ≡ length file
  pub before : take (data_offset header) bytes ≡ take (data_offset header) file
  pub words : words_of header.order (take (4 * length (words_there file header)) (drop (data_offset header) bytes))
      ≡ patched (words_there file header) patches
  pub rest : drop (data_offset header + 4 * length (words_there file header)) bytes
      ≡ drop (data_offset header + 4 * length (words_there file header)) file

-- the file with the patches of its live objects
pub record IsPatchedFile (weak : Weak) (file : List ℕ) (before : LiveSize) (patches : List Patch) (bytes : List ℕ) : Type 0 where
  pub header : Header
  pub is_header : HasSoundWords file header
  pub found : ArePatchesOf weak file before patches
  pub written : ArePatched file header patches bytes

-- the file holds an image without a fault, and stays as it is
pub record IsUntouched (weak : Weak) (file : List ℕ) (repaired : Repaired) : Type 0 where
  pub sound : IsSoundWith weak file repaired.before
  pub same : repaired.bytes.items ≡ file
  pub none : repaired.patches.items ≡ []
  pub size : repaired.after ≡ repaired.before

-- the file with the patches of its live objects, which a compaction accepts
pub record IsSoundAfter (weak : Weak) (file : List ℕ) (repaired : Repaired) : Type 0 where
  pub patched : IsPatchedFile weak file repaired.before repaired.patches.items repaired.bytes.items
  pub sound : IsSoundWith weak repaired.bytes.items repaired.after

-- the file as it is repaired
abbrev pub IsRepaired : Weak → List ℕ → Repaired → Type 0
IsRepaired weak file repaired = IsUntouched weak file repaired ⊎ IsSoundAfter weak file repaired

-- the image that the file holds has a fault, and its live objects have no patches
pub record HasNoPatches (weak : Weak) (file : List ℕ) (error : NilError) : Type 0 where
  pub image : SavedImage
  pub holds : Holds file image
  pub marks : List Bool
  pub reachable : ∥ IsReachability image.memory weak marks ∥₁
  pub fault : Fault
  pub faulty : first_fault image.memory weak marks ≡ Some fault
  pub refused : IsNilError image.memory weak marks error

-- why there are no patches
abbrev pub LacksPatches : Weak → List ℕ → RepairError → Type 0
LacksPatches weak file OutOfMemory = Unit {0}
LacksPatches weak file (NoImage fault) = IsUnreadable file fault
LacksPatches weak file NoNil = HasNoPatches weak file nil_errors.NoNil
LacksPatches weak file NoSpecialObjects = HasNoPatches weak file nil_errors.NoSpecialObjects
LacksPatches weak file (Unsound fault) = ⊥

-- the file with its patches still has this fault
pub record StaysFaulty (weak : Weak) (file : List ℕ) (fault : Fault) : Type 0 where
  pub before : LiveSize
  pub patches : List Patch
  pub bytes : List ℕ
  pub patched : IsPatchedFile weak file before patches bytes
  pub faulty : HasFault weak bytes fault

-- why a file was not repaired
abbrev pub StopsRepair : Weak → List ℕ → RepairError → Type 0
StopsRepair weak file OutOfMemory = Unit {0}
StopsRepair weak file (NoImage fault) = IsUnreadable file fault
StopsRepair weak file NoNil = HasNoPatches weak file nil_errors.NoNil
StopsRepair weak file NoSpecialObjects = HasNoPatches weak file nil_errors.NoSpecialObjects
StopsRepair weak file (Unsound fault) = StaysFaulty weak file fault
