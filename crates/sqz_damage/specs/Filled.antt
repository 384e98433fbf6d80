-- Gaps as free chunks.
use Rattle.std.specs.Prelude.{ℕ, ◌+◌, ◌*◌, ◌<◌, ◌≤◌, List, [], ◌∷◌, length, slice_set}
use Rattle.sqz_damage.specs.declared.gap.Gap.{Gap}
use Rattle.sqz_damage.specs.Readings.{Part, Chunk, Skipped}

-- gaps in ascending order that do not overlap, each of some words, from word `first` on and within
-- `count` words
abbrev pub AreGapsIn : ℕ → ℕ → List Gap → Type 0
AreGapsIn first count [] = Unit {0}
AreGapsIn first count (gap ∷ gaps) =
    (first ≤ gap.first) × (0 < gap.words) × (gap.first + gap.words ≤ count) × AreGapsIn (gap.first + gap.words) count gaps

-- the header of a free chunk of this many words
abbrev pub free_header : ℕ → ℕ
free_header words = 4 * words + 2

-- the words, with the header of a free chunk at the front of each gap
abbrev pub filled : List ℕ → List Gap → List ℕ
filled words [] = words
filled words (gap ∷ gaps) = filled (slice_set words gap.first (free_header gap.words)) gaps

-- the chunk that a part of a reading becomes: a chunk stays, and of a gap all words but the first
abbrev pub filled_part : Part → List ℕ
filled_part (Chunk words) = words
filled_part (Skipped words) = slice_set words 0 (free_header (length words))
