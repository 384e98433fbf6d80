use Rattle.std.proofs.Common.{◌≡◌, ◌+◌, ◌-◌, length, take, drop, refl, ap, ◌∙◌, arith}
use Rattle.std.proofs.lemmas.List.{length-take-le, length-drop}
use Rattle.sqz_object.proofs.ChunkLemmas.{chunk_not_empty}
use Rattle.sqz_damage.specs.Votes.{votes_of, sum_from}
use Rattle.sqz_damage.proofs.VoteLemmas.{sum_from-votes-le}
use Rattle.sqz_damage.proofs.StepLemmas.{cost_at-le}
use Rattle.sqz_damage.proofs.steps.read_chunk.Goals as goal
use Rattle.sqz_damage.proofs.steps.read_chunk.Goals.{After-kept_votes}

size_here : (c : After-kept_votes)
    → length (take c.args.chunk.length (drop c.args.p c.args.voted.now.words.now)) ≡ c.args.chunk.length
size_here c =
    length-take-le c.args.chunk.length (drop c.args.p c.args.voted.now.words.now) c.requires.begins.inside

pub overflow_add-result : goal.overflow_add-result
overflow_add-result c =
    let words = c.args.voted.now.words.now in
    let votes = votes_of c.args.voted.now.votes.now in
    let end = c.args.p + c.args.chunk.length in
    let some =
    chunk_not_empty c.args.chunk.kind (take c.args.chunk.length (drop c.args.p words)) c.requires.begins.is_chunk in
    let size = size_here (goal.at.overflow_add-result c).After-kept_votes in
    omega (
      arith,
      some,
      size,
      c.requires.begins.inside,
      length-drop c.args.p words,
      cost_at-le votes words _ c.args.steps.now c.requires.steps end
          (omega (arith, some, size)) (omega (arith, some, size, c.requires.begins.inside, length-drop c.args.p words)),
      sum_from-votes-le c.args.voted.now.votes.now end (length words - end),
      c.requires.voted.few,
      c.between.ensures.few,
    )

pub returns-clause-cost : goal.returns-clause-cost
returns-clause-cost c =
    let words = c.args.voted.now.words.now in
    let votes = votes_of c.args.voted.now.votes.now in
    let size = size_here (goal.at.returns-clause-cost c).After-kept_votes in
    let length_is : c.args.p + c.args.chunk.length - c.args.p ≡ length (take c.args.chunk.length (drop c.args.p words)) =
    omega (arith, size) in
    let all : c.between.result ≡ sum_from votes c.args.p (length (take c.args.chunk.length (drop c.args.p words))) =
    c.between.ensures.votes ∙ ap (sum_from votes c.args.p) length_is in
    rw (all, c.kept_votes.ensures.kept) refl
