use Rattle.std.proofs.Common.{◌≡◌, ◌≤◌, ◌*◌, ◌^◌, length, take}
use Rattle.std.specs.Prelude.{sum_by}
use Rattle.sqz_image.specs.Objects.{chunk_words}
use Rattle.sqz_answers.proofs.levels.own_bytes.Given as goal

abbrev pub invariant-loop-object : goal.invariant-loop-object
invariant-loop-object l =
    record {
      sum : l.words ≡ sum_by (λ object. length (chunk_words l.heap object)) (take l.object-index l.objects);
      small : l.words ≤ l.object-index * 2 ^ 30;
    }
