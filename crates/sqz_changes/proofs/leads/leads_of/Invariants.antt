use Rattle.std.proofs.Common.{◌≡◌, length}
use Rattle.sqz_image.specs.Objects.{object_count}
use Rattle.sqz_changes.specs.Compared.{compared}
use Rattle.sqz_changes.specs.Leads.{AreFirst}
use Rattle.sqz_changes.specs.Owners.{first_leads, first_steps}
use Rattle.sqz_changes.proofs.leads.leads_of.Given as goal

abbrev pub invariant-loop-index : goal.invariant-loop-index
invariant-loop-index l = record {
  leads : l.leads.items ≡ first_leads (compared l.comparison) l.index;
  first : AreFirst (compared l.comparison) (first_steps (compared l.comparison) l.index) l.found.items;
  sized : length l.found.items ≡ object_count l.comparison.old.now.graph.heap.now;
}
