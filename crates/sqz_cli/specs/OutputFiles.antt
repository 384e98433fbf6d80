-- What contracts see of the output file, which the first write creates.
use Rattle.std.specs.Prelude.{ℕ, List, Option, Some, None, false}
use Rattle.sqz_image.specs.Devices.{SinkState}

-- the bytes that the file holds, if contracts see them; a file that is not created yet shows none
abbrev pub known_bytes : {F : Type 0} → (F → Option (List ℕ)) → Option F → Option (List ℕ)
known_bytes contents None = None
known_bytes contents (Some file) = contents file

-- a file that is not created yet, and has not been written to
abbrev pub new_output : SinkState
new_output = record { contents = None; writes = 0; unflushed = false; failed = false }
