use Rattle.sqz_image.proofs.HeapLemmas.{whole_memory_of_kept}
use Rattle.sqz_image.proofs.ReadingLemmas.{Holds-memory}
use Rattle.sqz_image.proofs.file_parts.Parts.image.Goals as goal

pub returns : goal.returns
returns c =
    let parts = c.args.self in
    Holds-memory c.args.file.items parts.header.words parts.header.order c.requires.sound c.requires.header.order
    c.requires.header.words c.new.result
    (rw c.new.ensures.prefix c.requires.prefix)
    c.new.ensures.header
    (rw c.new.ensures.heap
    (rw c.of-heap.ensures
    (rw (c.of-bytes.ensures, c.base.ensures, c.special.ensures, c.requires.words_are) (whole_memory_of_kept c.requires.kept))))
