use Rattle.std.proofs.Common.{All}
use Rattle.std.specs.List.{range_with_len}
use Rattle.sqz_names.specs.Picks.{ArePicked}
use Rattle.sqz_names.specs.Words.{IsClassCalled}
use Rattle.sqz_names.proofs.names.Names.classes_called.Given as goal

abbrev pub invariant-loop-class : goal.invariant-loop-class
invariant-loop-class l = record {
  named : All (IsClassCalled l.self.graph.heap.now l.self.graph.weak l.words) l.found.items;
  all : ArePicked (IsClassCalled l.self.graph.heap.now l.self.graph.weak l.words) (range_with_len 0 l.class) l.found.items;
}
