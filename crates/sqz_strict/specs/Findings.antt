-- What a strict check finds of an image.
use Rattle.std.specs.Prelude.{◌≡◌, Bool, List, []}
use Rattle.std.specs.List.{concat}
use Rattle.sqz_image.specs.Objects.{Memory}
use Rattle.sqz_trace.specs.declared.weak.Weak.{Weak}
use Rattle.sqz_damage.specs.Readings.{AreBestGaps}
use Rattle.sqz_strict.specs.declared.findings.Findings.{Findings}
use Rattle.sqz_strict.specs.Warnings.{AreWarnings}

-- the warnings about the marked objects, and the gaps of the best reading of the data words
pub record AreFindings (memory : Memory) (weak : Weak) (marks : List Bool) (findings : Findings) : Type 0 where
  pub warnings : AreWarnings memory weak marks findings.warnings.items
  pub gaps : AreBestGaps memory.base (concat memory.chunks) findings.gaps.items

-- nothing was found
pub record IsNothing (findings : Findings) : Type 0 where
  pub no_warning : findings.warnings.items ≡ []
  pub no_gap : findings.gaps.items ≡ []
