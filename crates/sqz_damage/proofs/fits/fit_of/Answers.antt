use Rattle.std.proofs.Common.{◌≤◌, ℕ, ◌∷◌, [], ◌-◌, ◌+◌, false, length, take, drop, sym, ap, ◌∙◌, arith}
use Rattle.std.specs.Prelude.{slice_index_or}
use Rattle.std.proofs.lemmas.List.{length-drop}
use Rattle.sqz_object.specs.Chunk.{IsChunkOf}
use Rattle.sqz_object.specs.Reading.{description}
use Rattle.sqz_object.proofs.ChunkLemmas.{chunk_prefix_unique}
use Rattle.sqz_damage.proofs.FitLemmas.{fit_of_kind, fits_at-object}
use Rattle.sqz_damage.proofs.ReadingLemmas.{BeginsWith-chunk}
use Rattle.sqz_damage.proofs.fits.fit_of.Goals as goal
use Rattle.sqz_damage.proofs.fits.fit_of.Goals.{After-known_chunk-chunk}

pub known_chunk-chunk-requires-clause-begins : goal.known_chunk-chunk-requires-clause-begins
known_chunk-chunk-requires-clause-begins c =
    let words = c.args.words.now in
    let count = c.args.end - c.args.p in (
      description (take count (drop c.args.p words)),
      BeginsWith-chunk (drop c.args.p words) count
          (omega (arith, c.requires.inside, c.requires.ordered, length-drop c.args.p words)) c.requires.chunk,
    )

-- the chunk that is read ends at `end`
kind_is : (c : After-known_chunk-chunk)
    → IsChunkOf c.known_chunk-chunk.result.kind (take (c.args.end - c.args.p) (drop c.args.p c.args.words.now))
kind_is c =
    let words = drop c.args.p c.args.words.now in
    let header = c.known_chunk-chunk.result in
    let begins = c.known_chunk-chunk.ensures in
    let fits : c.args.end - c.args.p ≤ length words = omega (arith, c.requires.inside, c.requires.ordered, length-drop c.args.p c.args.words.now) in
    let length_is = chunk_prefix_unique words header.length (c.args.end - c.args.p) begins.inside fits
    (header.kind, begins.is_chunk) c.requires.chunk in
    rw length_is at begins.is_chunk

pub returns-in_default : goal.returns-in_default
returns-in_default c =
    let at = (goal.at.returns-in_default c).After-known_chunk-chunk in
    let has = λ (k : ℕ). slice_index_or c.args.slots.now k false in
    let lost = length c.args.slots.now - length c.args.words.now in
    let chunk = take (c.args.end - c.args.p) (drop c.args.p c.args.words.now) in
    let kind = c.known_chunk-chunk.result.kind in
    ap (λ (n : ℕ). record {
      first = c.args.p;
      stays = has (c.args.p + n);
      moves = has (c.args.p + n + (length c.args.slots.now - c.len.result));
    } ∷ []) c.known_chunk-chunk.ensures.before
    ∙ ap (λ (n : ℕ). fit_of_kind has (length c.args.slots.now - n) c.args.p kind ∷ []) c.len.ensures
    ∙ sym (fits_at-object has lost c.args.p kind chunk c.in_default.not-Free (kind_is at))
