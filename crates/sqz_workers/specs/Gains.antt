-- What a pass gains as its worker marks.
use Rattle.std.specs.Prelude.{◌≡◌, ℕ, ◌+◌, ◌<◌, ◌≤◌, List, Option, Some, length, sum}
use Rattle.sqz_image.specs.Objects.{Memory, object_count}
use Rattle.sqz_trace.specs.declared.shades.Shade.{Shade}
use Rattle.sqz_trace.specs.declared.weak.Weak.{Weak}
use Rattle.sqz_marks.specs.declared.view.View.{View}
use Rattle.sqz_marks.specs.Core.{times, HasWon, HasSeen, HasBlackened}
use Rattle.sqz_marks.specs.Table.{HeldPass, KeepsSeen, AreClosed}

-- what a pass knew to be black, it still knows to be black
abbrev pub KeepsBlackened : View → View → Type 0
KeepsBlackened old new = (object : ℕ) → HasBlackened old object → HasBlackened new object

-- what a pass had won, it still has won
abbrev pub KeepsWon : View → View → Type 0
KeepsWon old new = (object : ℕ) → times object old.won ≤ times object new.won

-- a pass counted each object as many more times as it won it: it counted what it won; and if it
-- keeps what it had won, it also keeps what it had counted
abbrev pub CountsWhatItWins : View → View → Type 0
CountsWhatItWins old new =
    (object : ℕ) → times object new.counted + times object old.won ≡ times object old.counted + times object new.won

-- the same pass, of the same weight: it has won n more objects, and counted these and no others;
-- and it keeps what it had won, seen, counted, or known to be black
pub record HasGained (old new : HeldPass) (objects : ℕ) : Type 0 where
  pub table : new.table ≡ old.table
  pub workers : new.workers ≡ old.workers
  pub weight : new.view.weight ≡ old.view.weight
  pub won : length new.view.won ≡ length old.view.won + objects
  pub kept : KeepsWon old.view new.view
  pub seen : KeepsSeen old.view new.view
  pub counted : CountsWhatItWins old.view new.view
  pub blackened : KeepsBlackened old.view new.view

-- as `HasGained`, for some number of objects
pub record HasGainedSome (old new : HeldPass) : Type 0 where
  pub objects : ℕ
  pub gained : HasGained old new objects

-- a pass has seen what a slot points to, if that is an object
abbrev pub HasSeenTarget : Option ℕ → View → Type 0
HasSeenTarget target view = (object : ℕ) → target ≡ Some object → HasSeen view object

-- if a pass won an object, it knows it to be black: the object was scanned
abbrev pub IsBlackIfWon : View → ℕ → Type 0
IsBlackIfWon view object = HasWon view object → HasBlackened view object

-- every object below a number that the pass won was scanned
abbrev pub HasScannedAll : ℕ → View → Type 0
HasScannedAll count view = (object : ℕ) → object < count → IsBlackIfWon view object

-- a pass came to know that an object below a number is black
pub record HasBlackenedMore (count : ℕ) (old new : View) : Type 0 where
  pub object : ℕ
  pub inside : object < count
  pub before : times object old.blackened ≡ 0
  pub now : HasBlackened new object

-- a pass looked at an object that is not grey: it won no more objects, and if it had won this one,
-- it knows it to be black
pub record IsPassedBy (object : ℕ) (old new : View) : Type 0 where
  pub won : new.won ≡ old.won
  pub black : IsBlackIfWon new object

-- the table was closed by a pass that had scanned each object, and had won at least as many
-- objects as the workers did
pub record HasEnded (memory : Memory) (weak : Weak) (won : List ℕ) (shades : List Shade) : Type 0 where
  pub view : View
  pub closed : AreClosed memory weak view shades
  pub scanned : HasScannedAll (object_count memory) view
  pub enough : sum won ≤ length view.won
