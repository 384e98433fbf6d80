-- What the exit says of questions about each of some images.
use Rattle.std.specs.Prelude.{◌≡◌, ◌⊎◌, ℕ, Bool, List, Option, Result, vec_len}
use Rattle.sqz_image.specs.Objects.{SavedImage}
use Rattle.sqz_trace.specs.declared.weak.Weak.{Weak}
use Rattle.sqz_look_args.specs.declared.question.Question.{Question}
use Rattle.sqz_look_args.specs.declared.question.Question.TheVariants.{Census, Digest, Info}
use Rattle.sqz_look_files.specs.declared.failure.Failure.{Failure}
use Rattle.sqz_look_files.specs.Checks.{ReadsSome}
use Rattle.sqz_look_files.specs.Damaged.{IsImageOf}
use Rattle.sqz_look_files.specs.Verdicts.{EndsWorst, IsWorst}
use Rattle.sqz_look_cli.specs.Comparison.{ReadsNone}

-- a fact of the number of images, if the question is about each of some images
abbrev pub IfEach : Question → (ℕ → Type 0) → Type 0
IfEach (Info images) P = P (vec_len images)
IfEach (Census images counting by) P = P (vec_len images)
IfEach (Digest images) P = P (vec_len images)
IfEach _ P = Unit {0}

-- a file was read, and its image is asked about
abbrev pub ReadsImage : {F : Type 0} → (F → Option (List ℕ)) → Weak → Bool → Type 0
ReadsImage left weak past = ReadsSome left (λ bytes. (image : SavedImage) × IsImageOf weak past bytes image)

-- the exit for one file: 0 if its image was read, 1 if it holds none, and 3 if it could not be read
abbrev pub IsAnswered : {F : Type 0} → (F → Option (List ℕ)) → Weak → Bool → ℕ → Type 0
IsAnswered left weak past exit =
    ((exit ≡ 0) × ReadsImage left weak past) ⊎ ((exit ≡ 1) × ReadsNone left weak past) ⊎ (exit ≡ 3)

-- the worst exit of this number of files
abbrev pub AreAnswered : {F : Type 0} → (F → Option (List ℕ)) → Weak → Bool → ℕ → ℕ → Type 0
AreAnswered left weak past files exit = IsWorst (IsAnswered left weak past) files exit

-- how a question about each of this number of files ends
abbrev pub EndsEach : {F : Type 0} → (F → Option (List ℕ)) → Weak → Bool → ℕ → Result ℕ Failure → Type 0
EndsEach left weak past files outcome = EndsWorst (IsAnswered left weak past) files outcome
