use Rattle.std.proofs.Common.{◌≡◌}
use Rattle.std.specs.List.{filter_map, range_with_len}
use Rattle.std.specs.Prelude.{All}
use Rattle.regex.specs.Bytes.{matcher_pattern, regex_pattern}
use Rattle.sqz_facts.specs.Matches.{IsText, if_match}
use Rattle.sqz_facts.proofs.matches.matches_of.Given as goal

abbrev pub invariant-loop-object : goal.invariant-loop-object
invariant-loop-object l =
    record {
      pattern : matcher_pattern l.matcher ≡ regex_pattern l.pattern;
      matches : l.found.items
          ≡ filter_map (if_match l.live.graph.heap.now l.live.graph.weak l.live.marks (regex_pattern l.pattern)) (range_with_len 0 l.object);
      texts : All (IsText l.live.graph.heap.now l.live.graph.weak) l.found.items;
    }
