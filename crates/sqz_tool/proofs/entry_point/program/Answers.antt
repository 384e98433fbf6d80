use Rattle.std.proofs.Common.{◌≡◌, inl, inr, ap, ◌∙◌, arith}
use Rattle.std.proofs.lemmas.Bool.{false_from_ne_true}
use Rattle.clap.specs.Words.{kind_of}
use Rattle.clap.specs.declared.error.kind.ErrorKind.TheVariants.{OutOfMemory}
use Rattle.sqz_cli.specs.Exits.{exit_of_kind}
use Rattle.sqz_tool.proofs.EndingLemmas.{ends_whole, ends_faulty, ends_without_memory}
use Rattle.sqz_tool.proofs.entry_point.program.Goals as goal

pub returns-in-Ok-clause-ends : goal.returns-in-Ok-clause-ends
returns-in-Ok-clause-ends g c =
    let read = c.in-Ok.ensures in
    λ taken. record {
      whole = ends_whole _ _ _ _ c.finish.result c.in-Ok.arguments.output.now c.in-Ok.arguments.clear_weak c.in-Ok.arguments.census
          (record { out = read.output; clears = read.clear_weak; counts = read.census }) c.compact.result c.finish.ensures.exit c.compact.ensures.ends;
      faulty = ends_faulty _ _ _ _ c.finish.result c.in-Ok.arguments.output.now c.in-Ok.arguments.clear_weak c.in-Ok.arguments.census
          (record { out = read.output; clears = read.clear_weak; counts = read.census }) _ _ c.compact.result c.finish.ensures.exit c.finish.ensures.line c.compact.ensures.quiet c.compact.ensures.ends;
    }

pub returns-in-Ok-clause-unused : goal.returns-in-Ok-clause-unused
returns-in-Ok-clause-unused g c =
    λ taken unasked. c.compact.ensures.unused
    (false_from_ne_true c.in-Ok.arguments.census (λ asked. unasked (c.in-Ok.ensures.census.0 asked)))

pub returns-in-Err-clause-ends : goal.returns-in-Err-clause-ends
returns-in-Err-clause-ends g c =
    λ taken.
    let memory = elim (rw taken at c.in-Err.ensures.refused) as (λ _. kind_of c.in-Err.error ≡ OutOfMemory) [
      | inl is ↦ is
      | inr none ↦ absurd none
    ] in
    let exit : c.explain.result ≡ 4 = c.explain.ensures.exit ∙ ap exit_of_kind memory in
    record {
      whole = λ done. absurd (omega arith);
      faulty = λ some. ends_without_memory _ _ _ _ c.explain.result _ _ exit (ap g.C.Sink.state (c.explain.ensures.quiet some))
          (c.explain.ensures.memory memory);
    }
