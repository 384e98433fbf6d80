-- What the exit of `diff` says of two files.
use Rattle.std.specs.Prelude.{◌≡◌, ◌≢◌, ◌⊎◌, ◌↔◌, ◌≤◌, ℕ, Bool, List, Option, None, Result, IfOk, IfErr, IsTrue}
use Rattle.sqz_image.specs.Objects.{SavedImage}
use Rattle.sqz_trace.specs.declared.weak.Weak.{Weak}
use Rattle.sqz_trace.specs.Faults.{first_fault}
use Rattle.sqz_trace.specs.Reachability.{IsReachability}
use Rattle.sqz_alike.specs.Alike.{AreAlike}
use Rattle.sqz_alike.specs.Seen.{Seen}
use Rattle.sqz_look_args.specs.declared.question.Question.{Question}
use Rattle.sqz_look_args.specs.declared.question.Question.TheVariants.{Diff}
use Rattle.sqz_look_files.specs.Checks.{HoldsNone, ReadsSome}
use Rattle.sqz_look_files.specs.Damaged.{IsImageOf, ReadsDamaged}
use Rattle.sqz_look_files.specs.declared.failure.Failure.{Failure}
use Rattle.sqz_look_files.specs.declared.failure.Failure.TheVariants.{OutOfMemory, NotPrinted, NotRead, NotReadAt, NotThere}

-- a fact, if the question is what changed between two images
abbrev pub IfDiff : Question → Type 0 → Type 0
IfDiff (Diff old new) P = P
IfDiff _ P = Unit {0}

-- an image as it is compared under a policy on weak slots: marked are its reachable objects
pub record IsSeenAs (weak : Weak) (image : SavedImage) (seen : Seen) : Type 0 where
  pub same_memory : seen.memory ≡ image.memory
  pub same_weak : seen.weak ≡ weak
  pub reachable : ∥ IsReachability image.memory weak seen.marks ∥₁

-- an image has a fault
pub record HasFault (weak : Weak) (image : SavedImage) : Type 0 where
  pub marks : List Bool
  pub reachable : ∥ IsReachability image.memory weak marks ∥₁
  pub fault : first_fault image.memory weak marks ≢ None

-- whether two images are alike
pub record IsAlikeness (weak : Weak) (old_image new_image : SavedImage) (is_alike : Bool) : Type 0 where
  pub old : Seen
  pub new : Seen
  pub old_is : IsSeenAs weak old_image old
  pub new_is : IsSeenAs weak new_image new
  pub alike : IsTrue is_alike ↔ ∥ AreAlike old new ∥₁

-- some file was read, and its image is compared so
pub record ReadsSeen {F : Type 0} (left : F → Option (List ℕ)) (weak : Weak) (past : Bool) (seen : Seen) : Type 0 where
  pub image : SavedImage
  pub read : ReadsSome left (λ bytes. IsImageOf weak past bytes image)
  pub is_seen : IsSeenAs weak image seen

-- two files were read, and the exit is 0 exactly if their images are alike, and else 1
pub record AreCompared {F : Type 0} (left : F → Option (List ℕ)) (weak : Weak) (past : Bool) (exit : ℕ) : Type 0 where
  pub old : Seen
  pub new : Seen
  pub old_read : ReadsSeen left weak past old
  pub new_read : ReadsSeen left weak past new
  pub low : exit ≤ 1
  pub alike : (exit ≡ 0) ↔ ∥ AreAlike old new ∥₁

-- a file was read that holds no image, or, past what cannot be read, one that is damaged
abbrev pub ReadsNone : {F : Type 0} → (F → Option (List ℕ)) → Weak → Bool → Type 0
ReadsNone left weak past = ReadsSome left HoldsNone ⊎ ReadsDamaged left weak past

-- a fact, if what is asked about is not there
abbrev pub IfNotThere : Failure → Type 0 → Type 0
IfNotThere OutOfMemory P = Unit {0}
IfNotThere NotPrinted P = Unit {0}
IfNotThere (NotRead why) P = Unit {0}
IfNotThere (NotReadAt path why) P = Unit {0}
IfNotThere (NotThere message) P = P

-- how a comparison ends: with the exit of two files, or without an image if one of them holds none
pub record EndsComparison {F : Type 0} (left : F → Option (List ℕ)) (weak : Weak) (past : Bool) (outcome : Result ℕ Failure) : Type 0 where
  pub compared : IfOk outcome (AreCompared left weak past)
  pub not_there : IfErr outcome (λ failure. IfNotThere failure (ReadsNone left weak past))

-- exits 0 and 1: those of two files, or 1 if one of them holds no image
abbrev pub IsCompared : {F : Type 0} → (F → Option (List ℕ)) → Weak → Bool → ℕ → Type 0
IsCompared left weak past exit = AreCompared left weak past exit ⊎ ((exit ≡ 1) × ReadsNone left weak past)
