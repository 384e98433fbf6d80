-- What the parts of a heap say about the objects in its words.
-- Serves `heap::Heap::address`, `::chunk`, `::chunk_length`, `::find`, `::first`, `::len`,
-- `::object`, `::of`, `::special`, `::word`, `heap::heap_bounds` and `heap::place_at`.
use Rattle.std.proofs.Common.{◌≡◌, ◌≢◌, ℕ, ◌+◌, ◌-◌, ◌*◌, ◌%◌, ◌^◌, ◌<◌, ◌≤◌, List, [], map, length, get_or, take}
use Rattle.std.proofs.Common.{drop, slice_index, Option, Some, None, refl, sym, ap, subst, ◌∙◌, arith}
use Rattle.std.specs.List.{concat, AllByRecursion}
use Rattle.sqz_image.specs.Ranks.{IsPlaceOf, IsRanked, IsTable}
use Rattle.sqz_image.specs.declared.ranks.Block.{Block}
use Rattle.sqz_image.specs.declared.starts.Start.{Start}
use Rattle.sqz_image.specs.Starts.{first_of, IsFollowed, start_at, IsNextAfter, AreStarts}
use Rattle.std.proofs.lemmas.Simd.{map-map}
use Rattle.std.proofs.lemmas.List.{length-map, get_or-map, get_or-take, get_or-drop, length-drop}
use Rattle.sqz_object.specs.declared.chunk.Chunk.{Chunk}
use Rattle.sqz_object.specs.declared.chunk.Kind.{Kind}
use Rattle.sqz_object.specs.Chunk.{IsChunkOf, IsChunk, chunk_kind, base_word, before}
use Rattle.sqz_object.specs.Reading.{BeginsWith, description}
use Rattle.sqz_object.proofs.ChunkLemmas.{chunk_kind_is, BeginsWith-description}
use Rattle.sqz_image.specs.declared.fault.Fault.TheVariants.{BadSpecialObjects}
use Rattle.sqz_image.specs.Memory.{cut, memory_of, base_headers, IsListed, IsKept, IsMemory, IsWholeMemory, LacksSpecial}
use Rattle.sqz_image.specs.Objects.{Memory, Object, objects_of, objects, object_count, object_at, header_index}
use Rattle.sqz_image.specs.Objects.{address_in, find}
use Rattle.sqz_object.specs.declared.order.Order.{Order}
use Rattle.sqz_object.specs.Partition.{IsPartition}
use Rattle.std.specs.Prelude.{is_some}
use Rattle.sqz_image.specs.Index.{IsIndex}
use Rattle.sqz_image.proofs.CutLemmas.{cut-partition}
use Rattle.sqz_image.proofs.StartLemmas.{length_by_firsts, first_by_firsts}
use Rattle.sqz_image.proofs.ObjectLemmas.{StandsIn, objects_stand, objects_keep, All_at, before-chunk}
use Rattle.sqz_image.proofs.ObjectLemmas.{Rises, addresses_rise, find_in_at, find_in_none}
use Rattle.sqz_image.proofs.ObjectLemmas.{find_in-lt, length-objects_of}

abbrev no_object : Object
no_object = record { first = 0; chunk = [] }

-- what is kept of the memory that a view gives, about the memory that it is
pub listed_is : {view memory : Memory} {words : List ℕ} {starts : List Start} {blocks : List Block} {special_object : ℕ}
    → view ≡ memory → IsKept view words starts blocks special_object → IsListed memory words starts
listed_is {words = words} {starts = starts} is heap =
    subst (λ (m : Memory). IsListed m words starts) is heap.listed

-- what is found is an object of the memory that it is
pub found_is_object : {view memory : Memory} (object : ℕ)
    → view ≡ memory → find view view.special ≡ Some object → object < object_count memory
found_is_object {view = view} object is found =
    subst (λ (m : Memory). object < object_count m) is (find_in-lt view.base (objects view) view.special object found)

-- what the words of a heap have at one of its objects
pub record HasObject (words : List ℕ) (object : Object) : Type 0 where
  pub stands : StandsIn words object
  pub is_chunk : IsChunk object.chunk
  pub header : before object.chunk < length object.chunk

-- the words of a memory whose chunks are chunks have its objects
pub stands_at : (memory : Memory) → AllByRecursion IsChunk memory.chunks → (index : ℕ) → index < length (objects memory)
    → HasObject (concat memory.chunks) (object_at memory index)
stands_at memory chunks index lt =
    let object = get_or (objects memory) index no_object in
    let is_chunk : IsChunk object.chunk =
    All_at (λ o. IsChunk o.chunk) (objects memory) index no_object lt (objects_keep IsChunk memory.chunks chunks) in
    record {
      stands = All_at (StandsIn (concat memory.chunks)) (objects memory) index no_object lt (objects_stand memory.chunks);
      is_chunk = is_chunk;
      header = before-chunk object.chunk is_chunk;
    }

-- ---- the addresses of words, by their indexes

abbrev addresses_from : ℕ → List ℕ → List ℕ
addresses_from base indexes = map (λ index. base + 4 * index) indexes

module _ (base : ℕ) (indexes : List ℕ) where
  abbrev address_at : ℕ → ℕ
  address_at index = base + 4 * index

  abbrev all_addresses : List ℕ
  all_addresses = addresses_from base indexes

  at_place : (i : ℕ) → i < length all_addresses → slice_index all_addresses i ≡ address_at (slice_index indexes i)
  at_place i lt = get_or-map address_at indexes i 0 0 (omega (arith, length-map indexes address_at))

  pub no_address : (address : ℕ) → ((index : ℕ) → address_at index ≢ address) → IsPlaceOf all_addresses address None
  no_address address none i lt is = none (slice_index indexes i) (sym (at_place i lt) ∙ is)

  pub place_of_address : (index address : ℕ) → address_at index ≡ address
      → (r : Option ℕ) → IsPlaceOf indexes index r → IsPlaceOf all_addresses address r
  place_of_address index address same None missing =
      λ i lt is.
      missing i (omega (arith, lt, length-map indexes address_at)) (omega (arith, at_place i lt, is, same))
  place_of_address index address same (Some i) found =
      let inside : i < length all_addresses = omega (arith, found.0, length-map indexes address_at) in
      (inside, at_place i inside ∙ ap address_at found.1 ∙ same)

-- ---- the objects of a memory

abbrev addresses : Memory → List ℕ
addresses memory = map (address_in memory.base) (objects memory)

length_headers : (memory : Memory) → length (base_headers memory) ≡ length (objects memory)
length_headers memory = length-map (objects memory) header_index

addresses_of_headers : (memory : Memory) → addresses_from memory.base (base_headers memory) ≡ addresses memory
addresses_of_headers memory = map-map (λ index. memory.base + 4 * index) header_index (objects memory)

module _ {memory : Memory} {words : List ℕ} {starts : List Start} (heap : IsListed memory words starts) where
  pub has_object : (index : ℕ) → index < length (objects memory) → HasObject words (object_at memory index)
  has_object index lt =
      subst (λ (w : List ℕ). HasObject w (object_at memory index)) heap.partition.whole
      (stands_at memory heap.partition.each index lt)

  pub first_there : (index : ℕ) → index < length (objects memory)
      → first_of (start_at starts index) ≡ (object_at memory index).first
  first_there index lt = first_by_firsts (objects memory) starts heap.starts_are.firsts index lt

  -- how many objects there are, by the parts
  pub length_starts : length starts ≡ length (objects memory)
  length_starts = length_by_firsts (objects memory) starts heap.starts_are.firsts

  -- where an object's start says that it is followed directly, the next one begins behind it
  pub next_read : (index : ℕ) (start : Start) → index < length (objects memory) → start_at starts index ≡ start
      → IsFollowed start → IsNextAfter (objects memory) index
  next_read index start lt read followed =
      heap.starts_are.followed index lt (rw read followed)

  pub few_objects : length (objects memory) < 2 ^ 30
  few_objects =
      omega (
        arith,
        length-objects_of memory.chunks heap.partition.each,
        ap length heap.partition.whole,
        heap.few_words,
      )

  addresses_rising : Rises memory.base (addresses memory)
  addresses_rising = addresses_rise memory.base memory.chunks heap.partition.each

  -- the base headers
  pub few_headers : length (base_headers memory) < 2 ^ 30
  few_headers = omega (arith, length_headers memory, few_objects)

  -- what a search of the addresses says of the objects
  pub find_by_search : (address : ℕ) (r : Option ℕ) → IsPlaceOf (addresses memory) address r
      → r ≡ find memory address
  find_by_search address (Some i) found =
      sym (find_in_at memory.base (objects memory) i address addresses_rising found.0 found.1)
  find_by_search address None missing = sym (find_in_none memory.base (objects memory) address missing)

  -- the same of a look into a table of the base headers
  pub find_in_table : {blocks : List Block} (address : ℕ) (r : Option ℕ)
      → IsRanked (base_headers memory) blocks
      → ((indexes : List ℕ) → IsRanked indexes blocks
      → IsPlaceOf (addresses_from memory.base indexes) address r)
      → r ≡ find memory address
  find_in_table address r ranked looked =
      find_by_search address r
      (subst (λ (xs : List ℕ). IsPlaceOf xs address r) (addresses_of_headers memory)
      (looked (base_headers memory) ranked))

  pub table_of : {blocks : List Block} → IsRanked (base_headers memory) blocks
      → IsTable blocks
  table_of ranked = record { numbers = base_headers memory; few = few_headers; ranked = ranked }

-- ---- the words of an object

module _ {words : List ℕ} {object : Object} (here : HasObject words object) where
  -- one word of an object, and the word of the heap that it is
  pub word_there : (k : ℕ) → k < length object.chunk → get_or words (object.first + k) 0 ≡ slice_index object.chunk k
  word_there k lt =
      sym (get_or-drop object.first words k 0)
      ∙ sym (get_or-take (length object.chunk) (drop object.first words) k 0 lt)
      ∙ ap (λ (xs : List ℕ). get_or xs k 0) here.stands.there

  -- all words of an object, as a part of the heap's
  pub words_there : (first size : ℕ) → first ≡ object.first → size ≡ length object.chunk
      → take (first + size - first) (drop first words) ≡ object.chunk
  words_there first size first_is size_is =
      ap (λ (n : ℕ). take n (drop first words)) (omega arith)
      ∙ ap (λ (n : ℕ). take (length object.chunk) (drop n words)) first_is
      ∙ here.stands.there

  abbrev words_here : List ℕ
  words_here = drop object.first words

  chunk_here : IsChunk (take (length object.chunk) words_here)
  chunk_here = subst IsChunk (sym here.stands.there) here.is_chunk

  -- the object's header as it is read from the heap's words
  pub chunk_there : (chunk : Chunk) → BeginsWith words_here chunk → chunk ≡ description object.chunk
  chunk_there chunk begins =
      let inside : length object.chunk ≤ length words_here =
      omega (arith, here.stands.inside, length-drop object.first words) in
      BeginsWith-description words_here chunk (length object.chunk) begins inside chunk_here
      ∙ ap description here.stands.there

  -- the words of the heap begin with the object's chunk there
  pub begins_there : BeginsWith words_here (description object.chunk)
  begins_there =
      let (kind, is) = here.is_chunk in
      let same : chunk_kind object.chunk ≡ kind = chunk_kind_is kind object.chunk is in
      record {
        inside = omega (arith, here.stands.inside, length-drop object.first words);
        is_chunk =
            subst (IsChunkOf (chunk_kind object.chunk)) (sym here.stands.there)
            (subst (λ (k : Kind). IsChunkOf k object.chunk) (sym same) is);
        before = refl;
        base = ap base_word (sym here.stands.there);
      }

-- ---- the heap of an index

module _ (order : Order) (base special : ℕ) {words : List ℕ} {starts : List Start} {headers : List Block}
    (index : IsIndex words starts headers) where
  abbrev memory_read : Memory
  memory_read = memory_of order base special words

  same_chunks : cut words ≡ index.chunks
  same_chunks = cut-partition words index.chunks index.partition

  partition_read : IsPartition words (cut words)
  partition_read = subst (IsPartition words) (sym same_chunks) index.partition

  -- an index is what a heap keeps
  pub listed_of : length words < 2 ^ 30 → base + 4 * length words ≤ 2 ^ 32 → base % 4 ≡ 0
      → IsListed memory_read words starts
  listed_of few within aligned =
      record {
        partition = partition_read;
        starts_are =
            subst (λ (cs : List (List ℕ)). AreStarts (objects_of cs) starts) (sym same_chunks) index.starts_are;
        few_words = few;
        within = within;
        aligned = aligned;
      }

  -- its table has the base headers of the memory
  pub headers_of : IsRanked (base_headers memory_read) headers
  headers_of =
      subst (λ (cs : List (List ℕ)). IsRanked (map header_index (objects_of cs)) headers) (sym same_chunks)
      index.base_headers

  -- it is a memory of these words
  memory_of_index : IsMemory order base special words memory_read
  memory_of_index =
      record { in_order = refl; begins = refl; special_address = refl; partition = partition_read }

  pub lacks_special_of : find memory_read special ≡ None → LacksSpecial order base special words BadSpecialObjects
  lacks_special_of missing =
      record { memory = memory_read; is_memory = memory_of_index; missing = missing; refused = refl }

-- what a heap keeps is a memory with its special objects array
pub whole_memory_of_kept : {order : Order} {base special special_object : ℕ} {words : List ℕ} {starts : List Start} {headers : List Block}
    → IsKept (memory_of order base special words) words starts headers special_object
    → IsWholeMemory order base special words (memory_of order base special words)
whole_memory_of_kept kept =
    record {
      is_memory =
          record { in_order = refl; begins = refl; special_address = refl; partition = kept.listed.partition };
      found = ap is_some kept.found;
    }
