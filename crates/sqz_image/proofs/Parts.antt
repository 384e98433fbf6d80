-- A list that is given in parts.
-- Serves `memory_source::MemorySource::read`.
use Rattle.std.proofs.Common.{◌≡◌, ℕ, ◌+◌, ◌-◌, List, ◌++◌, length, take, drop, take-append-drop, sym, ap, ◌∙◌}
use Rattle.std.proofs.lemmas.List.{take_rest, drop-drop}

-- what is left from a place on: the next part, and what follows it
pub drop_parts : (bytes part : List ℕ) (given count : ℕ) → part ≡ take count (take (length bytes - given) (drop given bytes))
    → drop given bytes ≡ part ++ drop (given + count) bytes
drop_parts bytes part given count is_part =
    sym (take-append-drop count (drop given bytes))
    ∙ sym (ap (λ l. l ++ drop (given + count) bytes) (is_part ∙ ap (take count) (take_rest bytes given))
    ∙ ap (λ l. take count (drop given bytes) ++ l) (sym (drop-drop count given bytes)))
