use Rattle.std.proofs.Common.{◌≡◌, sym, ◌∙◌}
use Rattle.std.proofs.lemmas.Bool.{ltb-true}
use Rattle.std.proofs.lemmas.List.{get_or_read}
use Rattle.sqz_regions.specs.Regions.{At}
use Rattle.sqz_regions.specs.Cuts.{IsCutList}
use Rattle.sqz_regions.proofs.CutLemmas.{point_tells}
use Rattle.sqz_regions.proofs.cut.Cut.end.Goals as goal

pub returns-in-Some : goal.returns-in-Some
returns-in-Some c =
    let list : IsCutList c.in-At.points.items = rw c.in-At.is at c.self.invariant in
    let is : At c.in-At.points.items ≡ c.args.self.now = rw c.in-At.is at c.self.view_is in
    let inside = ltb-true _ _ (sym c.in-Some.ensures.lookup.0) in
    let there = c.from-in-Some.ensures ∙ get_or_read _ _ _ inside c.in-Some.ensures.lookup.1 0 in
    let tells = point_tells _ _ _ _ is list (rw c.deref.ensures.value at inside) (rw c.deref.ensures.value at there) in
    λ word lt. tells word
