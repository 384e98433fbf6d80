-- The object memory as a list of chunks, and its objects: the chunks that are not free.
use Rattle.std.specs.Prelude.{ℕ, suc, ◌+◌, ◌*◌, ◌==◌, if◌then◌else◌, List, [], ◌∷◌, ◌++◌, map, length, slice_index_or}
use Rattle.std.specs.Prelude.{sum_by, Option, Some, None, option_map}
use Rattle.std.specs.List.{concat}
use Rattle.sqz_object.specs.declared.order.Order.{Order}
use Rattle.sqz_object.specs.Bytes.{spelling_of}
use Rattle.sqz_object.specs.Chunk.{is_object, before}

-- an object memory as it was saved: the byte order of the file, the address of the first data
-- word, the address of the special objects array, and the chunks, each a list of words
pub record Memory : Type 0 where
  pub order : Order
  pub base : ℕ
  pub special : ℕ
  pub chunks : List (List ℕ)

-- an object: its chunk, and the index of the chunk's first word among the data words
pub record Object : Type 0 where
  pub first : ℕ
  pub chunk : List ℕ

-- the same object with `count` more words before it
abbrev pub moved_on : ℕ → Object → Object
moved_on count object = record { first = count + object.first; chunk = object.chunk }

-- the first chunk, if it is an object, and then the objects of the other chunks, after the first
-- chunk's words
abbrev pub objects_of : List (List ℕ) → List Object
objects_of [] = []
objects_of (chunk ∷ chunks) =
    (if is_object chunk then record { first = 0; chunk = chunk } ∷ [] else []) ++ map (moved_on (length chunk)) (objects_of chunks)

abbrev pub objects : Memory → List Object
objects memory = objects_of memory.chunks

abbrev pub object_count : Memory → ℕ
object_count memory = length (objects memory)

-- the object with an index, counted from 0 in address order
abbrev pub object_at : Memory → ℕ → Object
object_at memory index = slice_index_or (objects memory) index record { first = 0; chunk = [] }

-- the words of an object's chunk
abbrev pub chunk_words : Memory → ℕ → List ℕ
chunk_words memory index = (object_at memory index).chunk

-- the total length in words of the chunks of these objects, header words included
abbrev pub words_in : List Object → ℕ
words_in objects = sum_by (λ object. length object.chunk) objects

-- the index of an object's base header among the data words
abbrev pub header_index : Object → ℕ
header_index object = object.first + before object.chunk

-- an object's address is that of its base header
abbrev pub address_in : ℕ → Object → ℕ
address_in base object = base + 4 * header_index object

abbrev pub address_of : Memory → ℕ → ℕ
address_of memory index = address_in memory.base (object_at memory index)

-- the index of the object with this address, if there is one
abbrev pub find_in : ℕ → List Object → ℕ → Option ℕ
find_in base [] address = None
find_in base (object ∷ objects) address =
    if address_in base object == address then Some 0 else option_map suc (find_in base objects address)

abbrev pub find : Memory → ℕ → Option ℕ
find memory address = find_in memory.base (objects memory) address

-- an image: the bytes before its header, its header words, and its object memory
pub record SavedImage : Type 0 where
  pub prefix : List ℕ
  pub header : List ℕ
  pub memory : Memory

-- the bytes of the file that an image is saved as: those before its header, its header words, and
-- the words of its chunks
abbrev pub file_bytes : SavedImage → List ℕ
file_bytes image = image.prefix ++ spelling_of image.memory.order (image.header ++ concat image.memory.chunks)
