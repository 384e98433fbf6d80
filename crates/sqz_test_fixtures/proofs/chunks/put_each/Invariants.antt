use Rattle.std.proofs.Common.{◌≡◌, ◌++◌, take}
use Rattle.sqz_test_fixtures.specs.Words.{each_words}
use Rattle.sqz_test_fixtures.proofs.chunks.put_each.Given as goal

abbrev pub invariant-loop-compact : goal.invariant-loop-compact
invariant-loop-compact l = l.words.items ≡ l.fn.words.items ++ each_words (take l.compact-index l.kinds) l.fields
