-- The index of a number in an ascending list, and a table that gives it: one bit per number, and
-- ranks.
use Rattle.std.specs.Prelude.{◌≡◌, ◌≢◌, ℕ, ◌+◌, ◌/◌, ◌%◌, ◌^◌, ◌<◌, ◌≤◌, List, length, slice_index, slice_index_or, Option}
use Rattle.std.specs.Prelude.{Some, None, count_ones}
use Rattle.std.specs.Int.{bit_at}
use Rattle.sqz_image.specs.declared.ranks.Block.{Block}

-- the index of the number; `None` if it is not in the list
abbrev pub IsPlaceOf : List ℕ → ℕ → Option ℕ → Type 0
IsPlaceOf xs x None = (i : ℕ) → i < length xs → slice_index xs i ≢ x
IsPlaceOf xs x (Some i) = (i < length xs) × (slice_index xs i ≡ x)

-- the number of bits of a block
abbrev pub block_size : ℕ
block_size = 32

-- the block that holds a number's bit
abbrev pub block_of : List Block → ℕ → Block
block_of blocks x = slice_index_or blocks (x / block_size) record { members = 0; below = 0 }

abbrev pub IsMember : List Block → ℕ → Type 0
IsMember blocks x = bit_at (block_of blocks x).members (x % block_size) ≡ 1

-- the number of members below a number
abbrev pub rank : List Block → ℕ → ℕ
rank blocks x = (block_of blocks x).below + count_ones ((block_of blocks x).members % 2 ^ (x % block_size))

-- a table whose members are the numbers, and which gives their indexes
pub record IsRanked (numbers : List ℕ) (blocks : List Block) : Type 0 where
  pub member : (i : ℕ) → i < length numbers → IsMember blocks (slice_index numbers i)
  pub place : (i : ℕ) → i < length numbers → rank blocks (slice_index numbers i) ≡ i
  pub only : (x : ℕ) → IsMember blocks x → (i : ℕ) × (i < length numbers) × (slice_index numbers i ≡ x)

-- a table of some numbers
pub record IsTable (blocks : List Block) : Type 0 where
  pub numbers : List ℕ
  pub few : length numbers < 2 ^ 30
  pub ranked : IsRanked numbers blocks

-- the number is above all of them
abbrev pub IsAbove : List ℕ → ℕ → Type 0
IsAbove numbers x = (i : ℕ) → i < length numbers → slice_index numbers i < x

-- the last block is that of the next number, and it counts all members so far
pub record IsReady (blocks : List Block) (count next : ℕ) : Type 0 where
  pub last : length blocks ≡ next / block_size + 1
  pub above : (block_of blocks next).members < 2 ^ (next % block_size)
  pub counted : (block_of blocks next).below + count_ones (block_of blocks next).members ≡ count

-- the table of the numbers so far, to which any greater number can be added
pub record IsFilled (numbers : List ℕ) (blocks : List Block) : Type 0 where
  pub ranked : IsRanked numbers blocks
  pub reach : (x : ℕ) → IsAbove numbers x → length blocks ≤ x / block_size + 1
  pub ready : (x : ℕ) → IsAbove numbers x → x / block_size < length blocks → IsReady blocks (length numbers) x
