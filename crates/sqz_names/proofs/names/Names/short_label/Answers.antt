use Rattle.std.proofs.Common.{subst}
use Rattle.std.proofs.lemmas.Result.{IfOk-weaker}
use Rattle.sqz_names.specs.declared.label.Label.TheVariants.{Other}
use Rattle.sqz_names.specs.LabelOrder.{IsFirst}
use Rattle.sqz_names.proofs.names.Names.short_label.Goals as goal

pub returns-in-Other : goal.returns-in-Other
returns-in-Other c =
    let memory = c.args.self.now.graph.heap.now in
    let weak = c.args.self.now.graph.weak in
    let is_first : IsFirst c.args.self.now.graph.heap.now c.args.self.now.graph.weak c.args.object Other =
    subst (IsFirst memory weak c.args.object) c.in-Other.is c.in_ok-label.ensures.first in
    IfOk-weaker c.class_and_extent.result _ _ (λ text is. ∣ record { label = Other; is_label = tt; is_first = is_first; is = is } ∣₁)
    c.class_and_extent.ensures
