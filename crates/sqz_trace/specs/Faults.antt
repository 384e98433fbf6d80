-- The first fault for which a compaction rejects an image.
use Rattle.std.specs.Prelude.{Bool, if◌then◌else◌, List, Option, Some}
use Rattle.sqz_image.specs.declared.fault.Fault.{Fault}
use Rattle.sqz_image.specs.declared.fault.Fault.TheVariants.{NoNil}
use Rattle.sqz_image.specs.Objects.{Memory}
use Rattle.sqz_trace.specs.declared.weak.Weak.{Weak}
use Rattle.sqz_trace.specs.Defects.{first_defect, lacks_nil}

-- a missing nil, else the defect of the lowest marked object that has one
abbrev pub first_fault : Memory → Weak → List Bool → Option Fault
first_fault memory weak marks = if lacks_nil memory weak then Some NoNil else first_defect memory weak marks
