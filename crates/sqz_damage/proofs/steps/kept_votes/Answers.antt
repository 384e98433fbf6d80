use Rattle.std.proofs.Common.{◌≡◌, ℕ, ◌+◌, take, drop, ap, sym, ◌∙◌, arith}
use Rattle.std.proofs.lemmas.List.{length-take-le}
use Rattle.sqz_object.specs.Chunk.{words_before}
use Rattle.sqz_damage.specs.Votes.{votes_of}
use Rattle.sqz_damage.proofs.ReadingLemmas.{kept_votes-object, header_votes-le}
use Rattle.sqz_damage.proofs.steps.kept_votes.Goals as goal

pub returns-in_default : goal.returns-in_default
returns-in_default c =
    let words = c.args.voted.now.words.now in
    let votes = votes_of c.args.voted.now.votes.now in
    let p = c.args.p in
    let chunk = c.args.chunk in
    let here = take chunk.length (drop p words) in
    let header : c.at.result ≡ votes (p + words_before chunk.kind) =
    c.at.ensures.votes ∙ ap (λ (n : ℕ). votes (p + n)) c.requires.begins.before in
    record {
      kept = header ∙ sym (kept_votes-object votes p chunk.kind here c.in_default.not-Free c.requires.begins.is_chunk);
      some =
          omega (
            arith,
            header,
            header_votes-le votes p chunk.length chunk.kind here c.requires.begins.is_chunk
                (length-take-le chunk.length (drop p words) c.requires.begins.inside),
          );
    }
