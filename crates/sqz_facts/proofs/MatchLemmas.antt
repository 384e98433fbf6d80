-- What matches is a text.
-- Serves `matches::matches_of`.
use Rattle.std.proofs.Common.{◌≡◌, ◌<◌, ℕ, Bool, true, List, Option, Some, None, refl}
use Rattle.std.specs.Prelude.{is_some}
use Rattle.std.proofs.lemmas.Bool.{and_parts}
use Rattle.regex.specs.Patterns.{Re}
use Rattle.sqz_image.specs.Objects.{Memory, object_count}
use Rattle.sqz_trace.specs.declared.weak.Weak.{Weak}
use Rattle.sqz_trace.specs.Graph.{is_marked}
use Rattle.sqz_facts.specs.Matches.{IsText, has_match, is_match}
use Rattle.sqz_facts.specs.Texts.{text_of}

has_match-some : (pattern : Re) (text : Option (List ℕ)) → has_match pattern text ≡ true → is_some text ≡ true
has_match-some pattern (Some text) e = refl
has_match-some pattern None e = absurd cc

pub IsText-match : (memory : Memory) (weak : Weak) (marks : List Bool) (pattern : Re) (object : ℕ) → object < object_count memory
    → is_match memory weak marks pattern object ≡ true → IsText memory weak object
IsText-match memory weak marks pattern object inside is =
    let text = text_of memory weak object in
    record {
      inside = inside;
      has_text = has_match-some pattern text (and_parts (is_marked marks object) (has_match pattern text) is).1;
    }
