use Rattle.std.proofs.Common.{◌≡◌, ◌++◌, List, length}
use Rattle.sqz_changes.specs.declared.leads.Step.{Step}
use Rattle.sqz_changes.specs.Compared.{compared}
use Rattle.sqz_changes.specs.Differences.{slots_to}
use Rattle.sqz_changes.specs.Leads.{AreFirst}
use Rattle.sqz_changes.specs.Owners.{through}
use Rattle.sqz_changes.proofs.leads.follow.Given as goal

abbrev pub invariant-loop-field : goal.invariant-loop-field
invariant-loop-field l =
    record {
      first : (steps : List Step) → AreFirst (compared l.comparison) steps l.fn.found.items
          → AreFirst (compared l.comparison) (steps ++ through l.index (slots_to l.field)) l.found.items;
      sized : length l.found.items ≡ length l.fn.found.items;
    }
