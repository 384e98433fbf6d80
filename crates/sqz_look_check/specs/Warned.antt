-- Whether a strict check warns about an image.
use Rattle.std.specs.Prelude.{◌≡◌, ◌↔◌, Bool, true, false, List}
use Rattle.sqz_image.specs.Objects.{Memory}
use Rattle.sqz_trace.specs.declared.weak.Weak.{Weak}
use Rattle.sqz_strict.specs.declared.findings.Findings.{Findings}
use Rattle.sqz_strict.specs.Findings.{AreFindings, IsNothing}

-- what a strict check finds of the marked objects, and whether it is something
pub record HasFindings (memory : Memory) (weak : Weak) (marks : List Bool) (some : Bool) : Type 0 where
  pub findings : Findings
  pub found : AreFindings memory weak marks findings
  pub nothing : (some ≡ false) ↔ IsNothing findings

-- there are warnings, if these are asked for
pub record IsWarned (memory : Memory) (weak : Weak) (marks : List Bool) (strict warned : Bool) : Type 0 where
  pub unasked : strict ≡ false → warned ≡ false
  pub asked : strict ≡ true → HasFindings memory weak marks warned
