use Rattle.std.proofs.Common.{◌≡◌, take}
use Rattle.std.specs.List.{filter_map}
use Rattle.sqz_changes.specs.declared.named.Named.{Named}
use Rattle.sqz_changes.specs.Named.{named_pair}
use Rattle.sqz_changes.proofs.named.named_pairs.Given as goal

abbrev pub invariant-loop-named : goal.invariant-loop-named
invariant-loop-named g l =
    l.pairs.items ≡ filter_map (λ (named : Named g.row.N.Denot). named_pair g.N.Ord.cmp l.old l.new named.name) (take l.named-index l.old)
