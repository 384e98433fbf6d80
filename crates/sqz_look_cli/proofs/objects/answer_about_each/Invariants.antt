use Rattle.std.proofs.Common.{◌≡◌, ◌≤◌, All, map, take}
use Rattle.std.specs.Prelude.{string_bytes}
use Rattle.sqz_alike.specs.Seen.{seen}
use Rattle.sqz_look_cli.specs.Objects.{HasAbsent, StandsFor}
use Rattle.sqz_look_cli.proofs.objects.answer_about_each.Given as goal

abbrev pub invariant-loop-words : goal.invariant-loop-words
invariant-loop-words g l =
    record {
      exit : l.exit ≤ 1;
      silent : l.exit ≡ 0 → l.err ≡ l.initial.err;
      absent : l.exit ≡ 1 → HasAbsent (seen l.inspector.live) (map string_bytes l.objects);
      there : l.exit ≡ 0 → All (StandsFor (seen l.inspector.live)) (map string_bytes (take l.words-index l.objects));
    }
