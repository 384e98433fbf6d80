-- Objects and their addresses: an address finds its object and no other, and if every chunk is an
-- object, each object begins where the one before it ends.
-- Serves `CompactedLemmas` and `SettledLemmas` of `sqz_slide`; `CorrespondenceLemmas` and
-- `FixedPointLemmas` of `sqz_tool`.
use Rattle.std.proofs.Common.{◌≡◌, ℕ, zero, suc, ◌<◌, Bool, true, false, cond, eqb, List, [], ◌∷◌, length}
use Rattle.std.proofs.Common.{get_or, slice_index_or, take, Option, Some, None, refl, sym, ap, subst, ◌∙◌, arith}
use Rattle.std.specs.Option.{option_map}
use Rattle.std.specs.List.{concat, AllByRecursion}
use Rattle.std.proofs.lemmas.Bool.{eqb-true}
use Rattle.std.proofs.lemmas.List.{length-append, length-map, get_or-map}
use Rattle.sqz_object.specs.Chunk.{IsChunk, is_object}
use Rattle.sqz_image.specs.Objects.{Memory, Object, objects_of, objects, moved_on, address_in, object_count, address_of}
use Rattle.sqz_image.specs.Objects.{find_in, find}
use Rattle.sqz_image.proofs.ObjectLemmas.{addresses_rise, find_in_at, find_in-lt}

abbrev no_object : Object
no_object = record { first = 0; chunk = [] }

-- ---- what an address finds

-- an object is found at its address
pub find-address : (memory : Memory) → AllByRecursion IsChunk memory.chunks → (index : ℕ) → index < object_count memory
    → find memory (address_of memory index) ≡ Some index
find-address memory all index lt =
    find_in_at memory.base (objects memory) index (address_of memory index) (addresses_rise memory.base memory.chunks all)
    (omega (arith, length-map (objects memory) (address_in memory.base)))
    (get_or-map (address_in memory.base) (objects memory) index no_object 0 lt)

-- what is found first, or else behind it, has the address
found_at : (base : ℕ) (object : Object) (objects : List Object) (address : ℕ) (test : Bool)
    → eqb (address_in base object) address ≡ test → (rest : Option ℕ)
    → ((j : ℕ) → rest ≡ Some j → address_in base (get_or objects j no_object) ≡ address) → (index : ℕ)
    → cond test (Some 0) (option_map suc rest) ≡ Some index
    → address_in base (get_or (object ∷ objects) index no_object) ≡ address
found_at base object objects address true e rest behind index found =
    let same : 0 ≡ index = cc in
    subst (λ (i : ℕ). address_in base (get_or (object ∷ objects) i no_object) ≡ address) same (eqb-true _ _ e)
found_at base object objects address false e None behind index found = absurd cc
found_at base object objects address false e (Some j) behind index found =
    let same : suc j ≡ index = cc in
    subst (λ (i : ℕ). address_in base (get_or (object ∷ objects) i no_object) ≡ address) same (behind j refl)

-- what is found among some objects has the address
address-find_in : (base : ℕ) (objects : List Object) (address index : ℕ)
    → find_in base objects address ≡ Some index → address_in base (get_or objects index no_object) ≡ address
address-find_in base [] address index found = absurd cc
address-find_in base (object ∷ objects) address index found =
    found_at base object objects address (eqb (address_in base object) address) refl (find_in base objects address)
    (λ j its. address-find_in base objects address j its) index found

-- what is found at an address is an object with this address
pub address-find : (memory : Memory) (address index : ℕ) → find memory address ≡ Some index
    → (index < object_count memory) × (address_of memory index ≡ address)
address-find memory address index found = (
  find_in-lt memory.base (objects memory) address index found,
  address-find_in memory.base (objects memory) address index found,
)

-- ---- where each chunk is an object

-- there are as many objects as chunks
pub objects_of-all : (chunks : List (List ℕ)) → AllByRecursion (λ chunk. is_object chunk ≡ true) chunks
    → length (objects_of chunks) ≡ length chunks
objects_of-all [] all = refl
objects_of-all (chunk ∷ chunks) all =
    let behind = objects_of-all chunks all.1 in
    let moved = length-map (objects_of chunks) (moved_on (length chunk)) in
    rw all.0 (omega (arith, behind, moved))

-- one chunk at one place is one object
same_object : {m n : ℕ} (chunk : List ℕ) → m ≡ n
    → ◌≡◌ {A = Object} (record { first = m; chunk = chunk }) (record { first = n; chunk = chunk })
same_object chunk e = ap (λ (first : ℕ). record { first = first; chunk = chunk }) e

-- and the objects are the chunks, each behind those before it
pub object-all : (chunks : List (List ℕ)) → AllByRecursion (λ chunk. is_object chunk ≡ true) chunks → (index : ℕ)
    → index < length chunks
    → slice_index_or (objects_of chunks) index record { first = 0; chunk = [] }
    ≡ record { first = length (concat (take index chunks)); chunk = slice_index_or chunks index [] }
object-all [] all index lt = absurd (omega arith)
object-all (chunk ∷ chunks) all zero lt = rw all.0 refl
object-all (chunk ∷ chunks) all (suc index) lt =
    let inside : index < length (objects_of chunks) = omega (arith, objects_of-all chunks all.1) in
    let moved = get_or-map (moved_on (length chunk)) (objects_of chunks) index no_object no_object inside in
    let before = object-all chunks all.1 index (omega arith) in
    rw all.0
    (moved
    ∙ ap (moved_on (length chunk)) before
    ∙ same_object (get_or chunks index []) (sym (length-append chunk (concat (take index chunks)))))
