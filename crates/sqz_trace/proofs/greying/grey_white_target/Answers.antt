use Rattle.std.proofs.Common.{sym, ◌≡◌, ◌∙◌, Some, arith}
use Rattle.std.proofs.lemmas.Option.{same_Some}
use Rattle.sqz_trace.specs.Edges.{edge_target}
use Rattle.sqz_trace.proofs.GreyingLemmas.{Greys-one}
use Rattle.sqz_trace.proofs.greying.grey_white_target.Goals as goal

pub returns-in-White-clause-greyed : goal.returns-in-White-clause-greyed
returns-in-White-clause-greyed c =
    let named = sym c.in_ok-found.ensures.target in
    Greys-one (λ index. edge_target c.args.edges.now c.args.slot ≡ Some index) c.args.shades.now
    c.in_ok-found.found (omega (arith, c.in_ok-found.ensures.inside, c.requires)) c.in-White.is named
    (λ index names. same_Some _ _ (sym named ∙ names))
