use Rattle.std.proofs.Common.{filter, take}
use Rattle.sqz_trace.specs.Graph.{is_marked}
use Rattle.sqz_names.proofs.OnlyLemmas.{IsOnlyOne}
use Rattle.sqz_names.proofs.words.only.only_marked.Given as goal

abbrev pub invariant-loop-object : goal.invariant-loop-object
invariant-loop-object l = IsOnlyOne (filter (is_marked l.fn.marks) (take l.object-index l.fn.objects)) l.found
