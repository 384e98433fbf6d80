use Rattle.std.proofs.Common.{◌≡◌, ◌++◌, take}
use Rattle.sqz_object.specs.Bytes.{spelling_of}
use Rattle.sqz_test_fixtures.proofs.files.put_words.Given as goal

abbrev pub invariant-loop-word : goal.invariant-loop-word
invariant-loop-word l = l.file.items ≡ l.fn.file.items ++ spelling_of l.order (take l.word-index l.words)
