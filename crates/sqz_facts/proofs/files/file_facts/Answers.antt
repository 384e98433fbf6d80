use Rattle.std.proofs.Common.{sym, ap, ◌∙◌, arith}
use Rattle.sqz_image.specs.Objects.{Memory}
use Rattle.sqz_image.proofs.FoundLemmas.{address-find}
use Rattle.sqz_trace.proofs.LiveWordLemmas.{length-live}
use Rattle.sqz_facts.specs.declared.sums.ChunkSums.{ChunkSums}
use Rattle.sqz_facts.proofs.SumLemmas.{sums_of-whole}
use Rattle.sqz_facts.proofs.files.file_facts.Goals as goal

pub returns-clause-special : goal.returns-clause-special
returns-clause-special c =
    let memory = c.heap-heap.result.now in
    c.address.ensures.address
    ∙ (address-find memory memory.special c.special.result c.special.ensures.special).1
    ∙ ap (λ (m : Memory). m.special) c.heap-heap.ensures

pub returns-clause-live_objects : goal.returns-clause-live_objects
returns-clause-live_objects c =
    c.count.ensures ∙ sym (length-live c.args.image.now.memory c.args.marks.now c.requires)

pub returns-clause-whole : goal.returns-clause-whole
returns-clause-whole c =
    omega (
      arith,
      c.words.ensures.words,
      c.from.ensures,
      c.from-2.ensures,
      c.from-3.ensures,
      c.from-4.ensures,
      ap (λ (s : ChunkSums). s.live_words) c.chunk_sums-sums.ensures,
      ap (λ (s : ChunkSums). s.dead_words) c.chunk_sums-sums.ensures,
      ap (λ (s : ChunkSums). s.free_words) c.chunk_sums-sums.ensures,
      sums_of-whole c.args.marks.now c.heap-heap.result.now.chunks,
    )
