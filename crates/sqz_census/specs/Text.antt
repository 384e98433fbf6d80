-- The text of a census: a line for each row, and one for the sums.
use Rattle.std.specs.Prelude.{ℕ, ◌-◌, List, ◌++◌, length, replicate, sum_by, codes, decimal, Option, Some, None, false}
use Rattle.std.specs.Fmt.{digits}
use Rattle.std.specs.List.{flat_map}
use Rattle.sqz_census.specs.Census.{CensusRow}

-- a number, right-aligned to this many characters; a longer number takes as many as it needs
abbrev pub right_aligned : ℕ → ℕ → List ℕ
right_aligned places number = replicate (places - length (decimal number)) 32 ++ decimal number

-- a new address as eight lower-case hexadecimal digits, or eight dashes if there is none
abbrev pub place_text : Option ℕ → List ℕ
place_text (Some place) = replicate (8 - length (digits 16 false place)) 48 ++ digits 16 false place
place_text None = codes "--------"

-- two right-aligned numbers, each followed by a space
abbrev pub columns : ℕ → ℕ → List ℕ
columns count bytes = right_aligned 10 count ++ codes " " ++ right_aligned 12 bytes ++ codes " "

-- the label of a row's objects: the name of their class, or their compact index if they have no
-- class
abbrev pub label_text : Option ℕ → ℕ → List ℕ → List ℕ
label_text (Some place) compact name = name
label_text None compact name = codes "compact " ++ decimal compact

abbrev pub row_text : CensusRow → List ℕ
row_text row =
    columns row.count row.bytes ++ place_text row.place ++ codes " " ++ label_text row.place row.compact row.name ++ codes "\n"

abbrev pub total_text : List CensusRow → List ℕ
total_text rows = columns (sum_by (λ row. row.count) rows) (sum_by (λ row. row.bytes) rows) ++ codes "total\n"

abbrev pub census_text : List CensusRow → List ℕ
census_text rows = flat_map row_text rows ++ total_text rows
