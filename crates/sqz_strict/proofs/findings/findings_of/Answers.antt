use Rattle.std.proofs.Common.{List, subst, sym}
use Rattle.std.specs.Prelude.{All}
use Rattle.sqz_image.specs.Objects.{object_count}
use Rattle.sqz_strict.specs.declared.warning.Warning.{Warning}
use Rattle.sqz_strict.proofs.InsideLemmas.{IsAboutFirst, All-inside}
use Rattle.sqz_strict.proofs.findings.findings_of.Goals as goal

pub returns-clause-inside : goal.returns-clause-inside
returns-clause-inside c =
    let memory = c.args.live.now.graph.heap.now in
    let are = c.in_ok-warnings.ensures in
    subst (λ (warnings : List Warning). All (IsAboutFirst (object_count memory)) warnings) (sym are.exact)
    (All-inside memory c.args.live.now.graph.weak c.args.live.now.marks are.sets)
