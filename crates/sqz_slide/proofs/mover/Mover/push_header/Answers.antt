use Rattle.std.proofs.Common.{◌<◌, length, ℕ, List, ◌++◌, sym, ap, ◌∙◌}
use Rattle.sqz_object.specs.declared.chunk.Chunk.{Chunk}
use Rattle.sqz_object.specs.Chunk.{before}
use Rattle.sqz_slide.proofs.HeaderLemmas.{moved_header-of_three, moved_header-of_two}
use Rattle.sqz_slide.proofs.mover.Mover.push_header.Goals as goal

pub returns-in_ok-extend_from_slice-in-Three : goal.returns-in_ok-extend_from_slice-in-Three
returns-in_ok-extend_from_slice-in-Three c marks places =
    let kind = sym (ap (λ (header : Chunk). header.kind) c.header.ensures.described) ∙ c.in-Three.is in
    let headed : before c.args.object.now < length c.args.object.now = rw c.header.ensures.described at c.header.ensures.headed in
    let class = c.moved_class-class in
    let words = c.words-header in
    (rw (c.at-in-Three.ensures, c.at-in-Three-2.ensures) at c.in_ok-extend_from_slice-in-Three.ensures.items)
    ∙ ap (λ (header : List ℕ). c.args.words.now.items ++ header)
    (moved_header-of_three c.args.self.now.heap.now marks c.args.object.now words.result.now headed words.ensures class.result
    kind (rw c.at.ensures at (class.ensures marks places)))

pub returns-in_ok-extend_from_slice-in-Two : goal.returns-in_ok-extend_from_slice-in-Two
returns-in_ok-extend_from_slice-in-Two c marks places =
    let kind = sym (ap (λ (header : Chunk). header.kind) c.header.ensures.described) ∙ c.in-Two.is in
    let headed : before c.args.object.now < length c.args.object.now = rw c.header.ensures.described at c.header.ensures.headed in
    let class = c.moved_class-class-in-Two in
    let words = c.words-header in
    (rw c.at-in-Two-2.ensures at c.in_ok-extend_from_slice-in-Two.ensures.items)
    ∙ ap (λ (header : List ℕ). c.args.words.now.items ++ header)
    (moved_header-of_two c.args.self.now.heap.now marks c.args.object.now words.result.now headed words.ensures class.result
    kind (rw c.at-in-Two.ensures at (class.ensures marks places)))
