use Rattle.std.proofs.Common.{◌≡◌, ◌-◌, true, take, drop, slice_index, ◌==◌}
use Rattle.std.specs.List.{list_all}
use Rattle.sqz_object.specs.Chunk.{header_type}
use Rattle.sqz_object.proofs.chunk.is_of_one_type.Given as goal

abbrev pub invariant-loop-k : goal.invariant-loop-k
invariant-loop-k g l =
    let words = g.W.WordList.words l.words in
    list_all (λ word. header_type word == header_type (slice_index words l.start)) (take (l.k - l.start) (drop l.start words)) ≡ true
