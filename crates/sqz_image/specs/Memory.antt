-- The object memory that a list of data words holds, and how a heap keeps it.
use Rattle.std.specs.Prelude.{◌≡◌, ◌⊎◌, ℕ, zero, suc, ◌+◌, ◌*◌, ◌%◌, ◌^◌, ◌<◌, ◌≤◌, List, [], ◌∷◌, map, length, take}
use Rattle.std.specs.Prelude.{drop, Some, None, IsSome}
use Rattle.sqz_object.specs.declared.order.Order.{Order}
use Rattle.sqz_object.specs.Partition.{IsPartition, stated_length}
use Rattle.sqz_image.specs.declared.fault.Fault.{Fault}
use Rattle.sqz_image.specs.declared.fault.Fault.TheVariants.{BadSpecialObjects}
use Rattle.sqz_image.specs.declared.ranks.Block.{Block}
use Rattle.sqz_image.specs.declared.starts.Start.{Start}
use Rattle.sqz_image.specs.Ranks.{IsRanked}
use Rattle.sqz_image.specs.Starts.{AreStarts}
use Rattle.sqz_image.specs.Objects.{Memory, objects, header_index, find}
use Rattle.sqz_image.specs.Refusals.{HasNoPartition}

-- the words cut by the lengths that their headers state, into at most this many chunks
abbrev pub cut_at_most : ℕ → List ℕ → List (List ℕ)
cut_at_most zero words = []
cut_at_most (suc times) [] = []
cut_at_most (suc times) (word ∷ words) =
    take (stated_length (word ∷ words)) (word ∷ words) ∷ cut_at_most times (drop (stated_length (word ∷ words)) (word ∷ words))

-- the only list of chunks that the words can be
unfoldable pub cut : List ℕ → List (List ℕ)
cut words = cut_at_most (length words) words

-- the object memory whose data words these are
abbrev pub memory_of : Order → ℕ → ℕ → List ℕ → Memory
memory_of order base special words =
    record {
      order = order;
      base = base;
      special = special;
      chunks = cut words;
    }

-- the word indexes of the objects' base headers
abbrev pub base_headers : Memory → List ℕ
base_headers memory = map header_index (objects memory)

-- what is kept of an object memory: its words, and where each object begins
pub record IsListed (memory : Memory) (words : List ℕ) (starts : List Start) : Type 0 where
  pub partition : IsPartition words memory.chunks
  pub starts_are : AreStarts (objects memory) starts
  pub few_words : length words < 2 ^ 30
  pub within : memory.base + 4 * length words ≤ 2 ^ 32
  pub aligned : memory.base % 4 ≡ 0

-- also the table of their base headers, by which an address is looked up, and the index of the
-- special objects array
pub record IsKept (memory : Memory) (words : List ℕ) (starts : List Start) (blocks : List Block) (special_object : ℕ) : Type 0 where
  pub listed : IsListed memory words starts
  pub headers : IsRanked (base_headers memory) blocks
  pub found : find memory memory.special ≡ Some special_object

-- an object memory with these data words
pub record IsMemory (order : Order) (base special : ℕ) (words : List ℕ) (memory : Memory) : Type 0 where
  pub in_order : memory.order ≡ order
  pub begins : memory.base ≡ base
  pub special_address : memory.special ≡ special
  pub partition : IsPartition words memory.chunks

-- and it has its special objects array
pub record IsWholeMemory (order : Order) (base special : ℕ) (words : List ℕ) (memory : Memory) : Type 0 where
  pub is_memory : IsMemory order base special words memory
  pub found : IsSome (find memory memory.special)

-- no object has the address of the special objects array
pub record LacksSpecial (order : Order) (base special : ℕ) (words : List ℕ) (fault : Fault) : Type 0 where
  pub memory : Memory
  pub is_memory : IsMemory order base special words memory
  pub missing : find memory memory.special ≡ None
  pub refused : fault ≡ BadSpecialObjects

-- there is no such memory, for this reason
abbrev pub IsNoMemory : Order → ℕ → ℕ → List ℕ → Fault → Type 0
IsNoMemory order base special words fault =
    HasNoPartition words fault ⊎ LacksSpecial order base special words fault
