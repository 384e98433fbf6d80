-- What becomes of weak slots.
use Rattle.std.specs.Prelude.{Bool, true, false}
use Rattle.sqz_trace.specs.declared.weak.Weak.{Weak}
use Rattle.sqz_trace.specs.declared.weak.Weak.TheVariants.{Keep, Clear}

-- what becomes of weak slots, by whether they are to be cleared
abbrev pub weak_of : Bool → Weak
weak_of true = Clear
weak_of false = Keep
