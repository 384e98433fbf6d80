use Rattle.std.proofs.Common.{◌≡◌, ◌<◌, ℕ, All, length}
use Rattle.std.specs.Prelude.{slice_index}
use Rattle.sqz_image.specs.Objects.{object_count, chunk_words}
use Rattle.sqz_histogram.specs.Groups.{group_of}
use Rattle.sqz_histogram.specs.Keys.{key_of, key_count}
use Rattle.sqz_answers.proofs.group_keys.class_keys.Given as goal

abbrev pub invariant-loop-object : goal.invariant-loop-object
invariant-loop-object l =
    record {
      sized : length l.keys.items ≡ l.object;
      each : (object : ℕ) → object < l.object
          → slice_index l.keys.items object
          ≡ key_of (object_count l.graph.heap.now) (group_of l.graph.heap.now l.graph.weak (chunk_words l.graph.heap.now object));
      inside : All (λ key. key < key_count l.graph.heap.now) l.keys.items;
    }
