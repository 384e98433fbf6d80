use Rattle.std.proofs.Common.{refl}
use Rattle.sqz_trace.specs.Reachability.{graph_from}
use Rattle.sqz_trace.proofs.LawLemmas.{AreLawful-first}
use Rattle.sqz_trace.proofs.shades.first_shades.Goals as goal

pub returns-clause-first : goal.returns-clause-first
returns-clause-first c =
    let blank = c.in_ok-shades.ensures.items_if_clones_equal (λ shade same. same) in
    record {
      start = c.special.result;
      is_special = c.special.ensures.special;
      are = rw (blank, c.len.ensures.objects) refl;
    }

pub returns-clause-lawful : goal.returns-clause-lawful
returns-clause-lawful c weak =
    let blank = c.in_ok-shades.ensures.items_if_clones_equal (λ shade same. same) in
    rw (blank, c.len.ensures.objects)
    (record {
      start = c.special.result;
      is_special = c.special.ensures.special;
      lawful = AreLawful-first (graph_from c.special.result c.args.heap.now weak) c.special.ensures.inside;
    })
