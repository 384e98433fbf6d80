-- What the exit says of questions about objects.
use Rattle.std.specs.Prelude.{◌≡◌, ◌⊎◌, ℕ, Bool, List, map, string_bytes, All, Contains, Option, Result, Ok, Err}
use Rattle.sqz_trace.specs.declared.weak.Weak.{Weak}
use Rattle.sqz_alike.specs.Seen.{Seen}
use Rattle.sqz_names.specs.declared.words.found.Found.TheVariants.{Nothing, One}
use Rattle.sqz_names.specs.declared.words.found.Missing.{Missing}
use Rattle.sqz_names.specs.Words.{IsObject}
use Rattle.sqz_look_args.specs.declared.question.Question.{Question}
use Rattle.sqz_look_args.specs.declared.question.Question.TheVariants.{Refs, Show, Why}
use Rattle.sqz_look_files.specs.declared.failure.Failure.{Failure}
use Rattle.sqz_look_cli.specs.Comparison.{IfNotThere, ReadsNone, ReadsSeen}

-- a fact of the words that objects are asked for by, if the question is about some objects
abbrev pub IfObjects : Question → (List (List ℕ) → Type 0) → Type 0
IfObjects (Show image objects) P = P (map string_bytes objects.items)
IfObjects (Why image objects raw) P = P (map string_bytes objects.items)
IfObjects (Refs image objects) P = P (map string_bytes objects.items)
IfObjects _ P = Unit {0}

-- words stand for an object
abbrev pub StandsFor : Seen → List ℕ → Type 0
StandsFor seen words = ∥ ((object : ℕ) × IsObject seen.memory seen.weak seen.marks words (One object)) ∥₁

-- words stand for no object
abbrev pub StandsForNone : Seen → List ℕ → Type 0
StandsForNone seen words = ∥ ((missing : Missing) × IsObject seen.memory seen.weak seen.marks words (Nothing missing)) ∥₁

-- some of these words stand for no object
pub record HasAbsent (seen : Seen) (words : List (List ℕ)) : Type 0 where
  pub word : List ℕ
  pub is_one : Contains words word
  pub is_absent : StandsForNone seen word

-- all these words stand for objects of the image in some file that was read
pub record AreThere {F : Type 0} (left : F → Option (List ℕ)) (weak : Weak) (past : Bool) (words : List (List ℕ)) : Type 0 where
  pub seen : Seen
  pub read : ReadsSeen left weak past seen
  pub there : All (StandsFor seen) words

-- some of them stand for no object of the image in some file that was read
pub record AreNotThere {F : Type 0} (left : F → Option (List ℕ)) (weak : Weak) (past : Bool) (words : List (List ℕ)) : Type 0 where
  pub seen : Seen
  pub read : ReadsSeen left weak past seen
  pub absent : HasAbsent seen words

-- some of them stand for no object, or the file holds no image
abbrev pub LackSome : {F : Type 0} → (F → Option (List ℕ)) → Weak → Bool → List (List ℕ) → Type 0
LackSome left weak past words = AreNotThere left weak past words ⊎ ReadsNone left weak past

-- exits 0 and 1: all of them stand for objects, or some do not
pub record AreAsked {F : Type 0} (left : F → Option (List ℕ)) (weak : Weak) (past : Bool) (words : List (List ℕ)) (exit : ℕ) : Type 0 where
  pub there : exit ≡ 0 → AreThere left weak past words
  pub absent : exit ≡ 1 → LackSome left weak past words

-- how a question about them ends: with such an exit, or without an image
abbrev pub EndsObjects : {F : Type 0} → (F → Option (List ℕ)) → Weak → Bool → List (List ℕ) → Result ℕ Failure → Type 0
EndsObjects left weak past words (Ok exit) = AreAsked left weak past words exit
EndsObjects left weak past words (Err failure) = IfNotThere failure (ReadsNone left weak past)
