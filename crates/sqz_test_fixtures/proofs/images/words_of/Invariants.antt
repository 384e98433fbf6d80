use Rattle.std.proofs.Common.{◌≡◌, take}
use Rattle.std.specs.List.{flat_map}
use Rattle.sqz_test_fixtures.specs.Words.{chunk_words}
use Rattle.sqz_test_fixtures.proofs.images.words_of.Given as goal

abbrev pub invariant-loop-chunk : goal.invariant-loop-chunk
invariant-loop-chunk l = l.words.items ≡ flat_map chunk_words (take l.chunk-index l.chunk-items)
