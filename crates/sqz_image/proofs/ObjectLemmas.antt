-- The objects of chunks: where they lie, their order, and how they are found.
-- Serves `FoundLemmas`, `HeapLemmas` and `IndexLemmas`; `EdgeLemmas` of `sqz_trace`;
-- `RegionLemmas` of `sqz_regions`; `MemberLemmas` of `sqz_facts`; `laws::core`, `CallLemmas` and
-- `KeptLemmas` of `sqz_marks`; `CompactedLemmas`, `LengthLemmas`, `MovedShapeLemmas` and
-- `WordLemmas` of `sqz_slide`; `GroupLemmas` of `sqz_histogram`.
use Rattle.std.proofs.Common.{◌≡◌, ◌≢◌, ℕ, zero, suc, ◌+◌, ◌*◌, ◌<◌, ◌≤◌, Bool, true, false, cond, eqb, List}
use Rattle.std.proofs.Common.{[], ◌∷◌, ◌++◌, map, length, get_or, take, drop, Option, Some, None, refl, sym}
use Rattle.std.proofs.Common.{ap, subst, ◌∙◌, arith, inl, inr}
use Rattle.std.specs.Option.{option_map}
use Rattle.std.specs.List.{concat, AllByRecursion}
use Rattle.std.proofs.lemmas.Bool.{cases_Bool, ne_eqb, eq-eqb}
use Rattle.std.proofs.lemmas.List.{length-append, length-map, take_at, drop_at, drop-drop}
use Rattle.sqz_object.specs.Chunk.{IsChunk, is_object, before}
use Rattle.sqz_object.proofs.ChunkLemmas.{chunk_has_header, chunk_kind_is, length-chunk}
use Rattle.sqz_image.specs.Objects.{Object, objects_of, moved_on, address_in, find_in}

-- the words of an object's chunk stand at its first word
pub record StandsIn (words : List ℕ) (object : Object) : Type 0 where
  pub inside : object.first + length object.chunk ≤ length words
  pub there : take (length object.chunk) (drop object.first words) ≡ object.chunk

stands_on : (front rest : List ℕ) (object : Object)
    → StandsIn rest object → StandsIn (front ++ rest) (moved_on (length front) object)
stands_on front rest object h =
    record {
      inside = let le = h.inside in omega (arith, length-append front rest);
      there =
          ap (take (length object.chunk))
          (sym (drop-drop object.first (length front) (front ++ rest))
          ∙ ap (drop object.first) (drop_at front rest (length front) refl))
          ∙ h.there;
    }

All-map : {X Y : Type 0} (P : Y → Type 0) (f : X → Y) (xs : List X)
    → AllByRecursion (λ x. P (f x)) xs → AllByRecursion P (map f xs)
All-map P f [] h = tt
All-map P f (x ∷ xs) h = (h.0, All-map P f xs h.1)

All-weaker : {X : Type 0} (P Q : X → Type 0) (xs : List X)
    → ((x : X) → P x → Q x) → AllByRecursion P xs → AllByRecursion Q xs
All-weaker P Q [] f h = tt
All-weaker P Q (x ∷ xs) f h = (f x h.0, All-weaker P Q xs f h.1)

-- the object that a chunk at the front is, and those of the chunks behind it
abbrev at_front : List ℕ → Object
at_front chunk = record { first = 0; chunk = chunk }

abbrev behind : List ℕ → List (List ℕ) → List Object
behind chunk chunks = map (moved_on (length chunk)) (objects_of chunks)

stands_first : (chunk rest : List ℕ) → StandsIn (chunk ++ rest) (at_front chunk)
stands_first chunk rest =
    record {
      inside = omega (arith, length-append chunk rest);
      there = take_at chunk rest (length chunk) refl;
    }

All-if : {X : Type 0} (P : X → Type 0) (test : Bool) (x : X) (xs : List X)
    → P x → AllByRecursion P xs → AllByRecursion P ((cond test (x ∷ []) []) ++ xs)
All-if P true x xs h hs = (h, hs)
All-if P false x xs h hs = hs

-- each object stands in the words of all chunks
pub objects_stand : (chunks : List (List ℕ)) → AllByRecursion (StandsIn (concat chunks)) (objects_of chunks)
objects_stand [] = tt
objects_stand (chunk ∷ chunks) =
    All-if (StandsIn (chunk ++ concat chunks)) (is_object chunk) (at_front chunk) (behind chunk chunks)
    (stands_first chunk (concat chunks))
    (All-map (StandsIn (chunk ++ concat chunks)) (moved_on (length chunk)) (objects_of chunks)
    (All-weaker (StandsIn (concat chunks)) _ (objects_of chunks) (stands_on chunk (concat chunks)) (objects_stand chunks)))

-- what holds of each chunk holds of each object's chunk
pub objects_keep : (P : List ℕ → Type 0) (chunks : List (List ℕ))
    → AllByRecursion P chunks → AllByRecursion (λ object. P object.chunk) (objects_of chunks)
objects_keep P [] h = tt
objects_keep P (chunk ∷ chunks) h =
    All-if (λ object. P object.chunk) (is_object chunk) (at_front chunk) (behind chunk chunks)
    h.0
    (All-map (λ object. P object.chunk) (moved_on (length chunk)) (objects_of chunks) (objects_keep P chunks h.1))

pub All_at : {X : Type 0} (P : X → Type 0) (xs : List X) (i : ℕ) (d : X)
    → i < length xs → AllByRecursion P xs → P (get_or xs i d)
All_at P [] i d lt h = absurd (omega arith)
All_at P (x ∷ xs) zero d lt h = h.0
All_at P (x ∷ xs) (suc i) d lt h = All_at P xs i d (omega arith) h.1

-- no chunk is too short for its header
pub before-chunk : (chunk : List ℕ) → IsChunk chunk → before chunk < length chunk
before-chunk chunk (kind, h) = rw (chunk_kind_is kind chunk h) (chunk_has_header kind chunk h)

-- ---- addresses rise

-- the first number is no lower than this, and each later one is above the one before
pub Rises : ℕ → List ℕ → Type 0
Rises low [] = Unit {0}
Rises low (x ∷ xs) = (low ≤ x) × Rises (suc x) xs

pub Rises-lower : (low high : ℕ) (xs : List ℕ) → low ≤ high → Rises high xs → Rises low xs
unfolding Rises
Rises-lower low high [] le h = tt
Rises-lower low high (x ∷ xs) le h = (omega (arith, h.0), h.1)

Rises-if : (low next x : ℕ) (test : Bool) (xs : List ℕ)
    → low ≤ x → low ≤ next → x < next → Rises next xs → Rises low ((cond test (x ∷ []) []) ++ xs)
unfolding Rises
Rises-if low next x true xs le_x le_next lt h = (le_x, Rises-lower (suc x) next xs lt h)
Rises-if low next x false xs le_x le_next lt h = Rises-lower low next xs le_next h

map-if : {X Y : Type 0} (f : X → Y) (test : Bool) (x : X) (xs : List X)
    → map f ((cond test (x ∷ []) []) ++ xs) ≡ (cond test (f x ∷ []) []) ++ map f xs
map-if f true x xs = refl
map-if f false x xs = refl

address-moved_on : (base count : ℕ) (object : Object)
    → address_in base (moved_on count object) ≡ address_in (base + 4 * count) object
address-moved_on base count object = omega arith

addresses-moved_on : (base count : ℕ) (objects : List Object)
    → map (address_in base) (map (moved_on count) objects) ≡ map (address_in (base + 4 * count)) objects
addresses-moved_on base count [] = refl
addresses-moved_on base count (object ∷ objects) =
    rw (address-moved_on base count object, addresses-moved_on base count objects) refl

pub addresses_rise : (base : ℕ) (chunks : List (List ℕ))
    → AllByRecursion IsChunk chunks → Rises base (map (address_in base) (objects_of chunks))
unfolding Rises
addresses_rise base [] all = tt
addresses_rise base (chunk ∷ chunks) all =
    let rest = addresses_rise (base + 4 * length chunk) chunks all.1 in
    let moved =
    subst (Rises (base + 4 * length chunk)) (sym (addresses-moved_on base (length chunk) (objects_of chunks))) rest in
    let header = before-chunk chunk all.0 in
    subst (Rises base) (sym (map-if (address_in base) (is_object chunk) (at_front chunk) (behind chunk chunks)))
    (Rises-if base (base + 4 * length chunk) (address_in base (at_front chunk)) (is_object chunk) _
    (omega arith) (omega arith) (omega arith) moved)

Rises_at : (low : ℕ) (xs : List ℕ) (i : ℕ) → i < length xs → Rises low xs → low + i ≤ get_or xs i 0
unfolding Rises
Rises_at low [] i lt h = absurd (omega arith)
Rises_at low (x ∷ xs) zero lt h = omega (arith, h.0)
Rises_at low (x ∷ xs) (suc i) lt h =
    let le : suc x + i ≤ get_or xs i 0 = Rises_at (suc x) xs i (omega arith) h.1 in omega (arith, h.0)

-- ---- finding an address

-- the first place of a number
find_number : List ℕ → ℕ → Option ℕ
find_number [] y = None
find_number (x ∷ xs) y = cond (eqb x y) (Some 0) (option_map suc (find_number xs y))

find_in-map : (base : ℕ) (objects : List Object) (address : ℕ)
    → find_in base objects address ≡ find_number (map (address_in base) objects) address
unfolding find_number
find_in-map base [] address = refl
find_in-map base (object ∷ objects) address = rw (find_in-map base objects address) refl

find_number_at : (low : ℕ) (xs : List ℕ) (i y : ℕ)
    → Rises low xs → i < length xs → get_or xs i 0 ≡ y → find_number xs y ≡ Some i
unfolding find_number Rises
find_number_at low [] i y h lt is = absurd (omega arith)
find_number_at low (x ∷ xs) zero y h lt is = rw (eq-eqb x y is) refl
find_number_at low (x ∷ xs) (suc i) y h lt is =
    let above : suc x + i ≤ get_or xs i 0 = Rises_at (suc x) xs i (omega arith) h.1 in
    rw (ne_eqb x y (λ e. omega arith), find_number_at (suc x) xs i y h.1 (omega arith) is) refl

find_number_none : (xs : List ℕ) (y : ℕ) → ((i : ℕ) → i < length xs → get_or xs i 0 ≢ y) → find_number xs y ≡ None
unfolding find_number
find_number_none [] y h = refl
find_number_none (x ∷ xs) y h =
    rw (ne_eqb x y (h 0 (omega arith)), find_number_none xs y (λ i lt. h (suc i) (omega arith))) refl

-- what rising addresses show of a look-up
module _ (base : ℕ) (objects : List Object) where
  abbrev addresses : List ℕ
  addresses = map (address_in base) objects

  pub find_in_at : (i address : ℕ) → Rises base addresses → i < length addresses → get_or addresses i 0 ≡ address
      → find_in base objects address ≡ Some i
  find_in_at i address rises lt at =
      find_in-map base objects address ∙ find_number_at base addresses i address rises lt at

  pub find_in_none : (address : ℕ) → ((i : ℕ) → i < length addresses → get_or addresses i 0 ≢ address)
      → find_in base objects address ≡ None
  find_in_none address none = find_in-map base objects address ∙ find_number_none addresses address none

-- ---- how many there are

length-if : {X : Type 0} (test : Bool) (x : X) (xs : List X) → length ((cond test (x ∷ []) []) ++ xs) ≤ 1 + length xs
length-if true x xs = omega arith
length-if false x xs = omega arith

-- there are no more objects than words
pub length-objects_of : (chunks : List (List ℕ))
    → AllByRecursion IsChunk chunks → length (objects_of chunks) ≤ length (concat chunks)
length-objects_of [] all = omega arith
length-objects_of (chunk ∷ chunks) all =
    let own = length-if (is_object chunk) (at_front chunk) (behind chunk chunks) in
    let later = length-objects_of chunks all.1 in
    let moved = length-map (objects_of chunks) (moved_on (length chunk)) in
    omega (arith, own, later, moved, length-append chunk (concat chunks), length-chunk chunk all.0)

-- ---- which chunks are objects, and what is found is one

All-objects : (P : Object → Type 0) (chunk : List ℕ) (objects : List Object)
    → (is_object chunk ≡ true → P (at_front chunk)) → AllByRecursion P objects
    → AllByRecursion P ((cond (is_object chunk) (at_front chunk ∷ []) []) ++ objects)
All-objects P chunk objects one others =
    elim (cases_Bool (is_object chunk)) [
      | inl used ↦ rw used (one used, others)
      | inr free ↦ rw free others
    ]

-- no object is a free chunk
pub objects_are_objects : (chunks : List (List ℕ))
    → AllByRecursion (λ object. is_object object.chunk ≡ true) (objects_of chunks)
objects_are_objects [] = tt
objects_are_objects (chunk ∷ chunks) =
    All-objects (λ object. is_object object.chunk ≡ true) chunk (behind chunk chunks) (λ used. used)
    (All-map (λ object. is_object object.chunk ≡ true) (moved_on (length chunk)) (objects_of chunks)
    (objects_are_objects chunks))

found_in : (test : Bool) (rest : Option ℕ) (count i : ℕ)
    → ((j : ℕ) → rest ≡ Some j → j < count) → cond test (Some 0) (option_map suc rest) ≡ Some i → i < suc count
found_in true rest count i h e = let is : 0 ≡ i = cc in omega arith
found_in false None count i h e = absurd cc
found_in false (Some j) count i h e = let is : suc j ≡ i = cc in let lt = h j refl in omega arith

-- what is found is an object
pub find_in-lt : (base : ℕ) (objects : List Object) (address i : ℕ)
    → find_in base objects address ≡ Some i → i < length objects
find_in-lt base [] address i e = absurd cc
find_in-lt base (object ∷ objects) address i e =
    found_in (eqb (address_in base object) address) (find_in base objects address) (length objects) i
    (λ j f. find_in-lt base objects address j f) e
