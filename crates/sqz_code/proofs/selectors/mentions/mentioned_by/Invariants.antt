use Rattle.std.proofs.Common.{◌≡◌}
use Rattle.std.specs.List.{filter_map}
use Rattle.sqz_trace.specs.Targets.{named_by}
use Rattle.sqz_code.proofs.selectors.mentions.mentioned_by.Given as goal

abbrev pub invariant-loop-word : goal.invariant-loop-word
invariant-loop-word l = l.mentioned.items ≡ filter_map (named_by l.heap) l.yielded
