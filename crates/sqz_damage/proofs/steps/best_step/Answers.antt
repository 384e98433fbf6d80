use Rattle.std.proofs.Common.{◌-◌, suc, length, subst, sym, arith}
use Rattle.sqz_object.specs.Chunk.{IsChunk}
use Rattle.sqz_damage.specs.Votes.{votes_of}
use Rattle.sqz_damage.specs.Steps.{IsStep, cost_at}
use Rattle.sqz_damage.proofs.VoteLemmas.{sum_from-votes-le}
use Rattle.sqz_damage.proofs.StepLemmas.{IsStep-skips, IsStep-reads, IsStep-skips_chunk, step_that_reads}
use Rattle.sqz_damage.proofs.WayLemmas.{way-le}
use Rattle.sqz_damage.proofs.steps.best_step.Goals as goal

pub overflow_add-gap : goal.overflow_add-gap
overflow_add-gap c =
    let words = c.args.voted.now.words.now in
    let votes = votes_of c.args.voted.now.votes.now in
    omega (
      arith,
      way-le votes words c.args.steps.now c.args.p (suc c.args.p) (suc c.args.p) c.args.skipped c.requires.steps
          (omega (arith, c.requires.inside)) c.requires.way,
      sum_from-votes-le c.args.voted.now.votes.now c.args.p (length words - c.args.p),
      c.requires.voted.few,
    )

pub returns-then-read-gap : goal.returns-then-read-gap
returns-then-read-gap c =
    let words = c.args.voted.now.words.now in
    let votes = votes_of c.args.voted.now.votes.now in
    let step = c.read_chunk-read.result in
    subst (IsStep votes words (cost_at c.args.steps.now) c.args.p)
    (sym (step_that_reads votes words step _ c.read_chunk-read.ensures.end c.read_chunk-read.ensures.read))
    (IsStep-reads votes words c.args.p c.requires.inside c.args.steps.now c.requires.steps c.args.skipped c.requires.way
    c.in-Ok.chunk c.in-Ok.ensures.chunk step.cost c.read_chunk-read.ensures.cost c.if-read-gap.true)

pub returns-else-read-gap : goal.returns-else-read-gap
returns-else-read-gap c =
    let words = c.args.voted.now.words.now in
    let votes = votes_of c.args.voted.now.votes.now in
    IsStep-skips_chunk votes words c.args.p c.requires.inside c.args.steps.now c.requires.steps c.args.skipped c.requires.way
    c.in-Ok.chunk c.in-Ok.ensures.chunk c.read_chunk-read.result.cost c.read_chunk-read.ensures.cost c.if-read-gap.false

pub returns-in-Err : goal.returns-in-Err
returns-in-Err c =
    let words = c.args.voted.now.words.now in
    let votes = votes_of c.args.voted.now.votes.now in
    IsStep-skips votes words c.args.p c.requires.inside c.args.steps.now c.requires.steps c.args.skipped c.requires.way
    (λ chunk is_chunk front fits. absurd (c.in-Err.ensures.fault.none (length chunk) (subst IsChunk (sym front) is_chunk)))
