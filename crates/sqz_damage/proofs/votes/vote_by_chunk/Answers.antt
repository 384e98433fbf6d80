use Rattle.std.proofs.Common.{ℕ, List, ◌≡◌, ◌-◌, ◌<◌, ◌≤◌, length, take, drop, ap, subst, sym, ◌∙◌, arith}
use Rattle.std.proofs.lemmas.List.{length-take-le, length-drop}
use Rattle.sqz_object.specs.Chunk.{IsChunk, IsChunkOf}
use Rattle.sqz_object.specs.Reading.{description, BeginsWith}
use Rattle.sqz_object.specs.declared.chunk.Chunk.{Chunk as Header}
use Rattle.sqz_object.proofs.ChunkLemmas.{BeginsWith-description, chunk_prefix_unique, chunk_has_header}
use Rattle.sqz_damage.specs.Readings.{slot_words}
use Rattle.sqz_damage.specs.Votes.{Casts}
use Rattle.sqz_damage.proofs.VoteLemmas.{Casts-none}
use Rattle.sqz_damage.proofs.ReadingLemmas.{BeginsWith-chunk, voters_of-free, voters_of-object}
use Rattle.sqz_damage.proofs.votes.vote_by_chunk.Goals as goal

pub known_chunk-chunk-requires-clause-begins : goal.known_chunk-chunk-requires-clause-begins
known_chunk-chunk-requires-clause-begins c =
    let words = c.args.words.now in
    let count = c.args.end - c.args.p in (
      description (take count (drop c.args.p words)),
      BeginsWith-chunk (drop c.args.p words) count
          (omega (arith, c.requires.inside, c.requires.ordered, length-drop c.args.p words)) c.requires.chunk,
    )

-- the chunk that is read ends at `end`
module _ (words : List ℕ) (p end : ℕ) (ordered : p < end) (inside : end ≤ length words)
    (is_chunk : IsChunk (take (end - p) (drop p words))) (header : Header) (begins : BeginsWith (drop p words) header) where
  fits : end - p ≤ length (drop p words)
  fits = omega (arith, length-drop p words)

  length_is : header.length ≡ end - p
  length_is = chunk_prefix_unique (drop p words) header.length (end - p) begins.inside fits (header.kind, begins.is_chunk) is_chunk

  kind_is : IsChunkOf header.kind (take (end - p) (drop p words))
  kind_is = rw length_is at begins.is_chunk

  described : header ≡ description (take (end - p) (drop p words))
  described = BeginsWith-description (drop p words) header (end - p) begins fits is_chunk

pub new-requires : goal.new-requires
new-requires c =
    let words = c.args.words.now in
    let p = c.args.p in
    let end = c.args.end in
    let header = c.known_chunk-chunk.result in
    let begins = c.known_chunk-chunk.ensures in
    let size = length_is words p end c.requires.ordered c.requires.inside c.requires.chunk header begins in
    record {
      described =
          described words p end c.requires.ordered c.requires.inside c.requires.chunk header begins
          ∙ ap description (sym c.part.ensures);
      headed =
          omega (
            arith,
            begins.before,
            chunk_has_header header.kind (take header.length (drop p words)) begins.is_chunk,
            length-take-le header.length (drop p words) begins.inside,
          );
      few = omega (arith, size, c.requires.inside, c.requires.few);
    }

pub returns-in-Free : goal.returns-in-Free
returns-in-Free c =
    let words = c.args.words.now in
    let p = c.args.p in
    let end = c.args.end in
    let header = c.known_chunk-chunk.result in
    let is =
    kind_is words p end c.requires.ordered c.requires.inside c.requires.chunk header c.known_chunk-chunk.ensures in
    rw (voters_of-free (take (end - p) (drop p words)) (rw c.in-Free.is at is)) (Casts-none c.args.base c.args.votes.now)

pub returns-in_default : goal.returns-in_default
returns-in_default c =
    let words = c.args.words.now in
    let p = c.args.p in
    let end = c.args.end in
    let header = c.known_chunk-chunk.result in
    let is =
    kind_is words p end c.requires.ordered c.requires.inside c.requires.chunk header c.known_chunk-chunk.ensures in
    rw (voters_of-object header.kind (take (end - p) (drop p words)) c.in_default.not-Free is)
    (subst (λ (chunk : List ℕ). Casts c.args.base (slot_words chunk) c.args.votes.now c.vote_by_slots.new.votes)
    (c.new.ensures ∙ c.part.ensures) c.vote_by_slots.ensures)
