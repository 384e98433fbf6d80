use Rattle.std.proofs.Common.{◌≡◌, take}
use Rattle.std.specs.List.{filter}
use Rattle.sqz_changes.specs.declared.named.Named.{Named}
use Rattle.sqz_changes.specs.Named.{is_none_of, objects_of}
use Rattle.sqz_changes.proofs.named.only_in.Given as goal

abbrev pub invariant-loop-named : goal.invariant-loop-named
invariant-loop-named g l =
    l.found.items ≡ filter (λ (named : Named g.row.N.Denot). is_none_of (objects_of g.N.Ord.cmp named.name l.other)) (take l.named-index l.one)
