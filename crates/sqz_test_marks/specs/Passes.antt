-- What calls leave of a pass, and what it has seen of what they claimed.
use Rattle.std.specs.Prelude.{◌≡◌, ◌<◌, ℕ, List, All}
use Rattle.sqz_marks.specs.declared.view.View.{View}
use Rattle.sqz_marks.specs.declared.claim.Claim.{Claim}
use Rattle.sqz_marks.specs.declared.claim.Claim.TheVariants.{Won, Seen, Nothing}
use Rattle.sqz_marks.specs.Core.{HasSeen}
use Rattle.sqz_marks.specs.Table.{HeldPass, KeepsSeen, HasCountedAll}

-- it is of the same table, has the same weight, still has seen what it had seen, and has counted all that it won if it had before
pub record IsLater (old new : HeldPass) : Type 0 where
  pub table : new.table ≡ old.table
  pub workers : new.workers ≡ old.workers
  pub weight : new.view.weight ≡ old.view.weight
  pub keeps : KeepsSeen old.view new.view
  pub counts : HasCountedAll old.view → HasCountedAll new.view

-- it has seen the object that a claim found, if there was one
abbrev pub Knows : View → Claim → Type 0
Knows view (Won object) = HasSeen view object
Knows view (Seen object) = HasSeen view object
Knows view Nothing = Unit {0}

-- a list of objects of a heap with this many, each of which the pass has seen
abbrev pub AreSeen : ℕ → View → List ℕ → Type 0
AreSeen count view list = All (λ object. (object < count) × HasSeen view object) list

-- what was a list of seen objects became another
abbrev pub KeepsSeenIn : ℕ → HeldPass → HeldPass → List ℕ → List ℕ → Type 0
KeepsSeenIn count old new list longer = AreSeen count old.view list → AreSeen count new.view longer

-- all targets were claimed
pub record ClaimsTargets (IsTarget : ℕ → Type 0) (old new : HeldPass) : Type 0 where
  pub later : IsLater old new
  pub targets : (object : ℕ) → IsTarget object → HasSeen new.view object
