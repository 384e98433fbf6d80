use Rattle.std.proofs.Common.{◌≡◌, map, take}
use Rattle.sqz_histogram.specs.Names.{shown_byte}
use Rattle.sqz_histogram.proofs.names.shown_bytes.Given as goal

abbrev pub invariant-loop-byte : goal.invariant-loop-byte
invariant-loop-byte l = l.text.items ≡ map shown_byte (take l.byte-index l.bytes)
