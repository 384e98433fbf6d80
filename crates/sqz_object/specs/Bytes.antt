-- Words as bytes, in either byte order. A byte is a number below 256, a word a number below 2 ^
-- 32.
use Rattle.std.specs.Prelude.{ℕ, List, [], ◌∷◌}
use Rattle.std.specs.List.{flat_map}
use Rattle.byteorder.specs.Endian.{little_number, big_number, little_bytes, big_bytes}
use Rattle.sqz_object.specs.declared.order.Order.{Order}
use Rattle.sqz_object.specs.declared.order.Order.TheVariants.{Little, Big}

-- the word that the first four bytes encode
abbrev pub number_of : Order → List ℕ → ℕ
number_of Little bytes = little_number 4 bytes
number_of Big bytes = big_number 4 bytes

-- the four bytes that encode a word
abbrev pub bytes_of : Order → ℕ → List ℕ
bytes_of Little word = little_bytes 4 word
bytes_of Big word = big_bytes 4 word

-- the words that bytes encode, four bytes each; one to three bytes left over at the end are
-- ignored
abbrev pub words_of : Order → List ℕ → List ℕ
words_of order (a ∷ b ∷ c ∷ d ∷ rest) =
    number_of order (a ∷ b ∷ c ∷ d ∷ []) ∷ words_of order rest
words_of order _ = []

-- the bytes that encode the words, in order
abbrev pub spelling_of : Order → List ℕ → List ℕ
spelling_of order words = flat_map (bytes_of order) words
