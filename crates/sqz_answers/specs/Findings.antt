-- The faults of an image that are found, and its live objects and bytes.
use Rattle.std.specs.Prelude.{ℕ, Bool, true, false, if◌then◌else◌, List, [], ◌∷◌, ◌++◌, length, Option, Some, None}
use Rattle.sqz_image.specs.declared.fault.Fault.{Fault}
use Rattle.sqz_image.specs.declared.fault.Fault.TheVariants.{NoNil}
use Rattle.sqz_image.specs.Objects.{Memory}
use Rattle.sqz_trace.specs.declared.weak.Weak.{Weak}
use Rattle.sqz_trace.specs.Dead.{bytes_in}
use Rattle.sqz_trace.specs.Defects.{lacks_nil}
use Rattle.sqz_trace.specs.Faults.{first_fault}
use Rattle.sqz_trace.specs.Live.{live}
use Rattle.sqz_facts.specs.AllDefects.{defects}

-- a fault, if there is one
abbrev pub faults_with : Option Fault → List Fault
faults_with None = []
faults_with (Some fault) = fault ∷ []

-- a missing nil, if weak slots are cleared
abbrev pub missing_nil : Memory → Weak → Option Fault
missing_nil memory weak = if lacks_nil memory weak then Some NoNil else None

-- a missing nil, and the defect of each marked object that has one
abbrev pub all_faults : Memory → Weak → List Bool → List Fault
all_faults memory weak marks = faults_with (missing_nil memory weak) ++ defects memory weak marks

-- each of them, or the first alone
abbrev pub faults_found : Bool → Memory → Weak → List Bool → List Fault
faults_found true memory weak marks = all_faults memory weak marks
faults_found false memory weak marks = faults_with (first_fault memory weak marks)

-- the number of the marked objects
abbrev pub marked_count : Memory → List Bool → ℕ
marked_count memory marks = length (live memory marks)

-- the bytes of the marked objects
abbrev pub marked_bytes : Memory → List Bool → ℕ
marked_bytes memory marks = bytes_in (live memory marks)
