-- What the reader keeps of the objects among the data words.
use Rattle.std.specs.Prelude.{ℕ, List, map}
use Rattle.sqz_object.specs.Partition.{IsPartition}
use Rattle.sqz_image.specs.declared.ranks.Block.{Block}
use Rattle.sqz_image.specs.Objects.{objects_of, header_index}
use Rattle.sqz_image.specs.declared.starts.Start.{Start}
use Rattle.sqz_image.specs.Ranks.{IsRanked}
use Rattle.sqz_image.specs.Starts.{AreStarts}

-- where the objects begin in words that are chunks, and the table of the word indexes of their
-- base headers
pub record IsIndex (words : List ℕ) (starts : List Start) (headers : List Block) : Type 0 where
  pub chunks : List (List ℕ)
  pub partition : IsPartition words chunks
  pub starts_are : AreStarts (objects_of chunks) starts
  pub base_headers : IsRanked (map header_index (objects_of chunks)) headers
