use Rattle.std.proofs.Common.{◌≡◌, drop, map, string_bytes}
use Rattle.sqz_look_cli.specs.Lines.{has_lines}
use Rattle.sqz_look_cli.proofs.lines.has_lines.Given as goal

-- a word is `-` if one of those that are left is
abbrev pub invariant-loop-word : goal.invariant-loop-word
invariant-loop-word l =
    has_lines (map string_bytes (drop l.word-index l.words)) ≡ has_lines (map string_bytes l.words)
