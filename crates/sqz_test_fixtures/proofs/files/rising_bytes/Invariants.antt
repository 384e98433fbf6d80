use Rattle.std.proofs.Common.{◌≡◌}
use Rattle.sqz_test_fixtures.specs.Files.{rising}
use Rattle.sqz_test_fixtures.proofs.files.rising_bytes.Given as goal

abbrev pub invariant-loop-index : goal.invariant-loop-index
invariant-loop-index l = l.file.items ≡ rising l.index
