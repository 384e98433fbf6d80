use Rattle.std.proofs.Common.{refl, arith}
use Rattle.sqz_facts.proofs.SiteLemmas.{IsSite-found}
use Rattle.sqz_facts.proofs.sites.site_of.Goals as goal

pub returns-in_default-kind : goal.returns-in_default-kind
returns-in_default-kind c =
    rw c.object_site.ensures
    (IsSite-found c.args.heap.now _ c.in-Some-chunk_with.placed c.in-Some-chunk_with.ensures.found c.in_default-kind.not-Free
    c.args.address c.in-Some.offset (omega (arith, c.in-Some.ensures.0, c.in-Some.ensures.1, c.base-base.ensures.base)) refl)
