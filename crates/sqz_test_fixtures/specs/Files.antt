-- The bytes of test files.
use Rattle.std.specs.Prelude.{ℕ, zero, suc, ◌+◌, ◌-◌, ◌*◌, ◌%◌, List, [], ◌∷◌, ◌++◌, length, take}
use Rattle.std.specs.Prelude.{replicate, Option, None, Some}
use Rattle.sqz_object.specs.Bytes.{spelling_of}
use Rattle.sqz_test_fixtures.specs.declared.images.TestImage.{TestImage}
use Rattle.sqz_test_fixtures.specs.declared.files.Before.{Before}
use Rattle.sqz_test_fixtures.specs.declared.files.Before.TheVariants.{Nothing, Filler, Rising, Image}
use Rattle.sqz_test_fixtures.specs.declared.files.TestFile.{TestFile}
use Rattle.sqz_test_fixtures.specs.Words.{count, data_words}

-- the size of the data in bytes: as the header states it, or else as it is
abbrev pub size_of : Option ℕ → List ℕ → ℕ
size_of None words = 4 * count words
size_of (Some size) words = size

-- the header words of an image
abbrev pub header_words : TestImage → List ℕ
header_words image =
    image.version ∷ image.header_size ∷ size_of image.data_size (data_words image) ∷ image.base ∷ image.special
    ∷ image.others

-- the bytes of an image's header and data
abbrev pub image_bytes_of : TestImage → List ℕ
image_bytes_of image = spelling_of image.order (header_words image) ++ spelling_of image.order (data_words image)

-- bytes of which each is 7 more than the one before, without its carry
abbrev pub rising : ℕ → List ℕ
rising zero = []
rising (suc index) = rising index ++ ((7 * index + 3) % 256) ∷ []

-- 512 bytes: the first of these, and then zeros
abbrev pub front_bytes : List ℕ → List ℕ
front_bytes bytes = take 512 bytes ++ replicate (512 - length bytes) 0

-- the bytes before an image
abbrev pub before_bytes : Before → List ℕ
before_bytes Nothing = []
before_bytes (Filler number) = replicate number 0x23
before_bytes Rising = rising 512
before_bytes (Image image) = front_bytes (image_bytes_of image)

-- the first bytes, if a file is cut
abbrev pub cut : Option ℕ → List ℕ → List ℕ
cut None bytes = bytes
cut (Some length) bytes = take length bytes

-- the bytes of a file
abbrev pub file_bytes_of : TestFile → List ℕ
file_bytes_of file = cut file.length (before_bytes file.before ++ image_bytes_of file.image ++ file.after.now)
