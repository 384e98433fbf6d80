-- What a worked image says about an accepted file, and the object memory of an image.
use Rattle.std.specs.Prelude.{◌≡◌, ℕ, zero, suc, Bool, List, [], ◌∷◌, take, drop}
use Rattle.sqz_object.specs.Partition.{stated_length}
use Rattle.sqz_image.specs.Objects.{Memory, SavedImage, file_bytes}
use Rattle.sqz_trace.specs.declared.weak.Weak.{Weak}
use Rattle.sqz_tool.specs.Verdict.{IsAccepted}
use Rattle.sqz_tool.specs.Compacted.{compacted}
use Rattle.sqz_test_fixtures.specs.declared.images.TestImage.{TestImage}
use Rattle.sqz_test_fixtures.specs.Words.{data_words}

-- at most this number of chunks, each of as many words as it states
abbrev pub chunks_among : ℕ → List ℕ → List (List ℕ)
chunks_among zero words = []
chunks_among (suc more) [] = []
chunks_among (suc more) (word ∷ words) =
    let size : ℕ = stated_length (word ∷ words) in
    take size (word ∷ words) ∷ chunks_among more (drop size (word ∷ words))

-- the object memory of an image, of at most 99 chunks
abbrev pub memory_of : TestImage → Memory
memory_of image =
    record {
      order = image.order;
      base = image.base;
      special = image.special;
      chunks = chunks_among 99 (data_words image);
    }

-- the file is accepted, and the answer is the file of its compaction
pub record CompactsTo (weak : Weak) (file answer : List ℕ) : Type 0 where
  pub image : SavedImage
  pub marks : List Bool
  pub accepted : IsAccepted weak file image marks
  pub bytes : file_bytes (compacted image weak marks) ≡ answer
