-- What a claim returns.
use Rattle.std.specs.Prelude.{◌≡◌, ◌⊎◌, ℕ, Option, Some, None}
use Rattle.sqz_trace.specs.declared.shades.Shade.TheVariants.{White, Grey}
use Rattle.sqz_marks.specs.declared.claim.Claim.{Claim}
use Rattle.sqz_marks.specs.declared.claim.Claim.TheVariants.{Won, Seen, Nothing}
use Rattle.sqz_marks.specs.Core.{claimed}
use Rattle.sqz_marks.specs.Table.{HeldPass, knowing}

-- a claim of the target of a strong slot: what it returns, and the pass before and after. Without
-- a target there is no step; otherwise the object is won, or was marked before
abbrev pub IsClaim : Option ℕ → HeldPass → HeldPass → Claim → Type 0
IsClaim None old new answer = (answer ≡ Nothing) × (new ≡ old)
IsClaim (Some object) old new answer =
    ((answer ≡ Won object) × (new ≡ knowing old (claimed object White old.view)))
    ⊎ ((answer ≡ Seen object) × (new ≡ knowing old (claimed object Grey old.view)))
