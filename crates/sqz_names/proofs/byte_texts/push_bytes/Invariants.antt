use Rattle.std.proofs.Common.{◌≡◌, ◌++◌, map, take}
use Rattle.std.specs.List.{concat}
use Rattle.std.specs.String.{string_bytes}
use Rattle.sqz_names.specs.ByteTexts.{byte_text}
use Rattle.sqz_names.proofs.byte_texts.push_bytes.Given as goal

abbrev pub invariant-loop-byte : goal.invariant-loop-byte
invariant-loop-byte l =
    string_bytes l.text ≡ string_bytes l.fn.text ++ concat (map (byte_text l.fn.doubles_quotes) (take l.byte-index l.fn.bytes))
