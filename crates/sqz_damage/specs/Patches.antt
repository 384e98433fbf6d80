-- The data words that are written anew so that no pointer of a live object leads nowhere.
use Rattle.std.specs.Prelude.{◌≡◌, ℕ, ◌+◌, ◌%◌, ◌<◌, Bool, true, false, if◌then◌else◌, List, [], ◌∷◌, map, length}
use Rattle.std.specs.Prelude.{slice_index, slice_set, None, MatchOption, IfSome, Contains}
use Rattle.std.specs.List.{flat_map, range_with_len}
use Rattle.sqz_image.specs.declared.slot.Slot.{Slot}
use Rattle.sqz_image.specs.declared.slot.Slot.TheVariants.{ClassWord, Field}
use Rattle.sqz_image.specs.Objects.{Memory, Object, object_count, object_at, chunk_words, find}
use Rattle.sqz_trace.specs.declared.weak.Weak.{Weak}
use Rattle.sqz_trace.specs.Graph.{is_marked}
use Rattle.sqz_damage.specs.Filled.{free_header}
use Rattle.sqz_damage.specs.Words.{slot_index}
use Rattle.sqz_damage.specs.declared.dangling.patch.Becomes.TheVariants.{Nil, FreeChunk}
use Rattle.sqz_damage.specs.declared.dangling.patch.Patch.{Patch}
use Rattle.sqz_damage.specs.declared.dangling.nil_error.NilError.{NilError}
use Rattle.sqz_damage.specs.declared.dangling.nil_error.NilError.TheVariants.{OutOfMemory, NoNil, NoSpecialObjects}
use Rattle.sqz_damage.specs.Dangling.{is_lost, dangling_slots, nil_address}

-- the word of a slot that points to nil; a class word keeps its header type, the low two bits
abbrev pub nil_word : ℕ → List ℕ → Slot → ℕ
nil_word nil chunk ClassWord = nil + slice_index chunk (slot_index chunk ClassWord) % 4
nil_word nil chunk (Field index) = nil

-- a word becomes this pointer to nil
abbrev pub nil_patch : ℕ → ℕ → Patch
nil_patch word value = record { word = word; value = value; becomes = Nil }

-- the slot of an object becomes a pointer to nil
abbrev pub slot_patch : ℕ → Object → Slot → Patch
slot_patch nil object slot = nil_patch (object.first + slot_index object.chunk slot) (nil_word nil object.chunk slot)

-- the chunk of an object becomes a free chunk
abbrev pub free_patch : Object → Patch
free_patch object = record { word = object.first; value = free_header (length object.chunk); becomes = FreeChunk }

-- the patches of the object with an index: an object that is lost becomes a free chunk, and in any
-- other one each slot that dangles points to nil. `nil` is the address of nil
abbrev pub patches_of : Memory → Weak → ℕ → ℕ → List Patch
patches_of memory weak nil index =
    let object = object_at memory index in
    if is_lost memory weak index then free_patch object ∷ []
    else map (slot_patch nil object) (dangling_slots memory weak object.chunk)

-- the patches of the object with an index, if it is marked
abbrev pub patches_at : Memory → Weak → List Bool → ℕ → ℕ → List Patch
patches_at memory weak marks nil index = if is_marked marks index then patches_of memory weak nil index else []

-- the patches of all marked objects, by object
abbrev pub patches_for : Memory → Weak → List Bool → ℕ → List Patch
patches_for memory weak marks nil = flat_map (patches_at memory weak marks nil) (range_with_len 0 (object_count memory))

-- the slots of the object with an index that dangle, unless it is lost
abbrev pub dangling_of : Memory → Weak → ℕ → List Slot
dangling_of memory weak index = if is_lost memory weak index then [] else dangling_slots memory weak (chunk_words memory index)

-- no slot of a marked object dangles
abbrev pub NothingDangles : Memory → Weak → List Bool → Type 0
NothingDangles memory weak marks =
    (index : ℕ) → index < object_count memory → is_marked marks index ≡ true → dangling_of memory weak index ≡ []

-- a slot of a marked object dangles
pub record SomethingDangles (memory : Memory) (weak : Weak) (marks : List Bool) : Type 0 where
  pub index : ℕ
  pub inside : index < object_count memory
  pub marked : is_marked marks index ≡ true
  pub slot : Slot
  pub dangles : Contains (dangling_of memory weak index) slot

-- whether the special objects array is lost
abbrev pub special_is_lost : Memory → Weak → Bool → Type 0
special_is_lost memory weak answer = IfSome (find memory memory.special) (λ index. is_lost memory weak index ≡ answer)

-- the patches of the marked objects. There is a nil that slots can point to, or no slot dangles
pub record AreNilPatches (memory : Memory) (weak : Weak) (marks : List Bool) (patches : List Patch) : Type 0 where
  pub special : special_is_lost memory weak false
  pub nil : ℕ
  pub is_nil : MatchOption (nil_address memory weak) (NothingDangles memory weak marks) (λ address. nil ≡ address)
  pub exact : patches ≡ patches_for memory weak marks nil

-- why there are no such patches: a slot dangles and there is no nil, or the special objects array is
-- lost
abbrev pub IsNilError : Memory → Weak → List Bool → NilError → Type 0
IsNilError memory weak marks OutOfMemory = Unit {0}
IsNilError memory weak marks NoNil = (nil_address memory weak ≡ None) × SomethingDangles memory weak marks
IsNilError memory weak marks NoSpecialObjects = special_is_lost memory weak true

-- the words with each patch written
abbrev pub patched : List ℕ → List Patch → List ℕ
patched words [] = words
patched words (patch ∷ patches) = patched (slice_set words patch.word patch.value) patches
