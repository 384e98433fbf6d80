use Rattle.std.proofs.Common.{◌≡◌, take}
use Rattle.std.specs.BTreeMap.{get}
use Rattle.sqz_changes.specs.Named.{objects_of, single}
use Rattle.sqz_changes.proofs.singles.single_objects.Given as goal

-- each name so far has its only object
abbrev pub invariant-loop-named : goal.invariant-loop-named
invariant-loop-named g l = (name : g.row.N.Denot) → get g.N.Ord.cmp l.singles name ≡ single (objects_of g.N.Ord.cmp name (take l.named-index l.listed))
