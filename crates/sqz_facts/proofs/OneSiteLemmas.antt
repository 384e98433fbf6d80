-- One thing lies at an address.
-- Serves `laws::one_site`.
use Rattle.std.proofs.Common.{◌≡◌, ◌≢◌, ℕ, zero, suc, ◌+◌, ◌-◌, ◌*◌, ◌/◌, ◌%◌, ◌<◌, ◌≤◌, ◌⊎◌, Bool, true, false, cond, eqb, leb}
use Rattle.std.proofs.Common.{◌&&◌, List, [], ◌∷◌, ◌++◌, length, map, refl, sym, ap, subst, ◌∙◌, arith, inl, inr}
use Rattle.std.specs.List.{concat, AllByRecursion}
use Rattle.std.proofs.lemmas.Bool.{cases_Bool, eq-eqb, ne_eqb, eqb-true, le-leb, lt-leb, and_parts}
use Rattle.std.proofs.lemmas.Bool.{false_from_ne_true}
use Rattle.std.proofs.lemmas.List.{length-append, length-map, length-drop}
use Rattle.std.proofs.lemmas.List.Folds.{concat-append}
use Rattle.sqz_object.specs.Chunk.{IsChunk, before, fields, is_object}
use Rattle.sqz_image.specs.Objects.{Memory, Object, objects_of, object_count, object_at, chunk_words, address_of, moved_on}
use Rattle.sqz_image.proofs.HeapLemmas.{stands_at}
use Rattle.sqz_facts.specs.declared.sites.Site.{Site}
use Rattle.sqz_facts.specs.declared.sites.Site.TheVariants as site
use Rattle.sqz_facts.specs.Sites.{IsSite, object_site}
use Rattle.sqz_facts.proofs.SiteLemmas.{object_at-placed}

-- ---- the chunk that has a word

-- two chunks that have one word are one
same_split : (front other : List (List ℕ)) (chunk it : List ℕ) (rest more : List (List ℕ)) (word : ℕ)
    → front ++ chunk ∷ rest ≡ other ++ it ∷ more
    → length (concat front) ≤ word → word < length (concat front) + length chunk
    → length (concat other) ≤ word → word < length (concat other) + length it
    → (front ≡ other) × (chunk ≡ it)
same_split [] [] chunk it rest more word same from below from' below' = (refl, cc)
same_split [] (o ∷ other) chunk it rest more word same from below from' below' =
    let first : chunk ≡ o = cc in
    absurd (omega (arith, ap length first, below, from', length-append o (concat other)))
same_split (f ∷ front) [] chunk it rest more word same from below from' below' =
    let first : f ≡ it = cc in
    absurd (omega (arith, ap length first, from, below', length-append f (concat front)))
same_split (f ∷ front) (o ∷ other) chunk it rest more word same from below from' below' =
    let first : f ≡ o = cc in
    let later : front ++ chunk ∷ rest ≡ other ++ it ∷ more = cc in
    let size = length-append f (concat front) in
    let size' = length-append o (concat other) in
    let both =
    same_split front other chunk it rest more (word - length f) later (omega (arith, from, size)) (omega (arith, from, below, size))
    (omega (arith, from', size', ap length first)) (omega (arith, from', below', size', ap length first)) in
    (cc (first, both.0), both.1)

-- the chunk that is the object with an index
record IsObjectAt (chunks : List (List ℕ)) (index : ℕ) : Type 0 where
  front : List (List ℕ)
  chunk : List ℕ
  rest : List (List ℕ)
  parts : chunks ≡ front ++ chunk ∷ rest
  used : is_object chunk ≡ true
  index_is : index ≡ length (objects_of front)

-- a chunk more before it, which is an object or free
behind_object : (first : List ℕ) (chunks : List (List ℕ)) (index : ℕ) → is_object first ≡ true → IsObjectAt chunks index
    → IsObjectAt (first ∷ chunks) (suc index)
behind_object first chunks index used at =
    record {
      front = first ∷ at.front;
      chunk = at.chunk;
      rest = at.rest;
      parts = ap (λ (cs : List (List ℕ)). first ∷ cs) at.parts;
      used = at.used;
      index_is = rw used (omega (arith, at.index_is, length-map (objects_of at.front) (moved_on (length first))));
    }

behind_free : (first : List ℕ) (chunks : List (List ℕ)) (index : ℕ) → is_object first ≡ false → IsObjectAt chunks index
    → IsObjectAt (first ∷ chunks) index
behind_free first chunks index free at =
    record {
      front = first ∷ at.front;
      chunk = at.chunk;
      rest = at.rest;
      parts = ap (λ (cs : List (List ℕ)). first ∷ cs) at.parts;
      used = at.used;
      index_is = rw free (omega (arith, at.index_is, length-map (objects_of at.front) (moved_on (length first))));
    }

-- an index is that of the first chunk, or of a later one
first_object : (first : List ℕ) (chunks : List (List ℕ)) → is_object first ≡ true
    → ((index : ℕ) → index < length (objects_of chunks) → IsObjectAt chunks index)
    → (index : ℕ) → index < length (objects_of (first ∷ chunks)) → IsObjectAt (first ∷ chunks) index
first_object first chunks used later zero lt =
    record { front = []; chunk = first; rest = chunks; parts = refl; used = used; index_is = refl }
first_object first chunks used later (suc index) lt =
    let object : Object = record { first = 0; chunk = first } in
    let inside : suc index < length (object ∷ map (moved_on (length first)) (objects_of chunks)) = rw used at lt in
    behind_object first chunks index used
    (later index (omega (arith, inside, length-map (objects_of chunks) (moved_on (length first)))))

later_object : (first : List ℕ) (chunks : List (List ℕ)) → is_object first ≡ false
    → ((index : ℕ) → index < length (objects_of chunks) → IsObjectAt chunks index)
    → (index : ℕ) → index < length (objects_of (first ∷ chunks)) → IsObjectAt (first ∷ chunks) index
later_object first chunks free later index lt =
    let inside : index < length (map (moved_on (length first)) (objects_of chunks)) = rw free at lt in
    behind_free first chunks index free
    (later index (omega (arith, inside, length-map (objects_of chunks) (moved_on (length first)))))

is_object_at : (chunks : List (List ℕ)) (index : ℕ) → index < length (objects_of chunks) → IsObjectAt chunks index
is_object_at [] index lt = absurd (omega arith)
is_object_at (first ∷ chunks) index lt =
    elim (cases_Bool (is_object first)) [
      | inl used ↦ first_object first chunks used (λ i inside. is_object_at chunks i inside) index lt
      | inr free ↦ later_object first chunks free (λ i inside. is_object_at chunks i inside) index lt
    ]

-- ---- what lies at a byte of a chunk

-- by the chunks before it
site_at : Memory → List (List ℕ) → List ℕ → ℕ → Site
site_at memory front chunk address =
    cond (is_object chunk)
    (object_site (length (objects_of front)) (before chunk) (address - (memory.base + 4 * length (concat front))))
    (site.FreeChunk (memory.base + 4 * length (concat front)) (4 * length chunk))

-- what lies at the address lies there by the chunk that has it
record IsLocated (memory : Memory) (address : ℕ) (one : Site) : Type 0 where
  front : List (List ℕ)
  chunk : List ℕ
  rest : List (List ℕ)
  parts : memory.chunks ≡ front ++ chunk ∷ rest
  from : memory.base + 4 * length (concat front) ≤ address
  below : address < memory.base + 4 * (length (concat front) + length chunk)
  is : one ≡ site_at memory front chunk address

module _ (memory : Memory) (address : ℕ) where
  located_free : (start bytes : ℕ) → IsSite memory address (site.FreeChunk start bytes) → IsLocated memory address (site.FreeChunk start bytes)
  unfolding site_at
  located_free start bytes (free, (from, below)) =
      record {
        front = free.front;
        chunk = free.chunk;
        rest = free.rest;
        parts = free.placed;
        from = omega (arith, from, free.begins);
        below = omega (arith, below, free.begins, free.sized);
        is = rw free.free (cc (free.begins, free.sized));
      }

  module _ (index : ℕ) (inside : index < object_count memory) where
    abbrev words : List ℕ
    words = chunk_words memory index

    abbrev start : ℕ
    start = memory.base + 4 * (object_at memory index).first

    located_object : (one : Site) → start ≤ address → address < start + 4 * length words
        → one ≡ object_site index (before words) (address - start) → IsLocated memory address one
    unfolding site_at
    located_object one from below is =
        let at = is_object_at memory.chunks index inside in
        let object_is : object_at memory index ≡ record { first = length (concat at.front); chunk = at.chunk } =
        ap (object_at memory) at.index_is ∙ object_at-placed memory at.front at.rest at.chunk at.parts at.used in
        let first_is : (object_at memory index).first ≡ length (concat at.front) = ap (λ (o : Object). o.first) object_is in
        let words_are : words ≡ at.chunk = ap (λ (o : Object). o.chunk) object_is in
        let byte_is : address - start ≡ address - (memory.base + 4 * length (concat at.front)) = omega (arith, first_is) in
        record {
          front = at.front;
          chunk = at.chunk;
          rest = at.rest;
          parts = at.parts;
          from = omega (arith, from, first_is);
          below = omega (arith, below, first_is, ap length words_are);
          is =
              rw at.used
              (is
              ∙ ap (λ (n : ℕ). object_site n (before words) (address - start)) at.index_is
              ∙ ap (λ (ws : List ℕ). object_site (length (objects_of at.front)) (before ws) (address - start)) words_are
              ∙ ap (object_site (length (objects_of at.front)) (before at.chunk)) byte_is);
        }

    abbrev byte : ℕ
    byte = address - start

    abbrev is_base : Bool
    is_base = eqb (byte / 4) (before words) && eqb (byte % 4) 0

    module _ (headed : before words < length words) where
      located_base : address ≡ address_of memory index → IsLocated memory address (site.Object index)
      located_base is =
          let word : byte / 4 ≡ before words = omega (arith, is) in
          let first : byte % 4 ≡ 0 = omega (arith, is) in
          located_object (site.Object index) (omega (arith, is)) (omega (arith, is, headed))
          (rw (eq-eqb (byte / 4) (before words) word, eq-eqb (byte % 4) 0 first) refl)

      located_header : start ≤ address → address < start + 4 * (before words + 1) → address ≢ address_of memory index
          → IsLocated memory address (site.HeaderWord index)
      located_header from below other =
          let not_base : is_base ≡ false =
          false_from_ne_true is_base
          (λ both.
          let parts = and_parts (eqb (byte / 4) (before words)) (eqb (byte % 4) 0) both in
          other (omega (arith, from, eqb-true _ _ parts.0, eqb-true _ _ parts.1))) in
          let low : byte / 4 ≤ before words = omega (arith, below) in
          located_object (site.HeaderWord index) from (omega (arith, below, headed))
          (rw (not_base, le-leb (byte / 4) (before words) low) refl)

    located_field : (field : ℕ) → field < length (fields words) → start + 4 * (before words + 1 + field) ≤ address
        → address < start + 4 * (before words + 1 + field) + 4 → IsLocated memory address (site.Field index field)
    located_field field lt from below =
        let word : byte / 4 ≡ before words + 1 + field = omega (arith, from, below) in
        let apart : eqb (byte / 4) (before words) ≡ false = ne_eqb _ _ (λ same. omega (arith, word, same)) in
        let high : leb (byte / 4) (before words) ≡ false = lt-leb _ _ (omega (arith, word)) in
        let same : field ≡ byte / 4 - before words - 1 = omega (arith, word) in
        located_object (site.Field index field) (omega (arith, from)) (omega (arith, below, lt, length-drop (before words + 1) words))
        (rw (apart, high) (ap (site.Field index) same))

  -- whatever lies at the address is outside, or located
  located : AllByRecursion IsChunk memory.chunks → (one : Site) → IsSite memory address one
      → (one ≡ site.Outside) ⊎ IsLocated memory address one
  located all (site.Object index) (inside, is) = inr (located_base index inside (stands_at memory all index inside).header is)
  located all (site.HeaderWord index) (inside, (from, below), other) =
      inr (located_header index inside (stands_at memory all index inside).header from below other)
  located all (site.Field index field) (inside, lt, (from, below)) =
      inr (located_field index inside field lt (omega (arith, from)) (omega (arith, below)))
  located all (site.FreeChunk start bytes) is = inr (located_free start bytes is)
  located all site.Outside is = inl refl

  -- an address of a chunk is not outside
  not_outside : (one : Site) → IsLocated memory address one → IsSite memory address site.Outside → ⊥
  not_outside one at outside =
      let size =
      ap (λ (cs : List (List ℕ)). length (concat cs)) at.parts
      ∙ ap length (concat-append at.front (at.chunk ∷ at.rest))
      ∙ length-append (concat at.front) (at.chunk ++ concat at.rest) in
      elim outside [
        | inl low ↦ omega (arith, low, at.from)
        | inr high ↦ omega (arith, high, at.below, size, length-append at.chunk (concat at.rest))
      ]

  -- what two chunks say that have the address
  same_located : (one other : Site) → IsLocated memory address one → IsLocated memory address other → one ≡ other
  same_located one other at at' =
      let word = (address - memory.base) / 4 in
      let both =
      same_split at.front at'.front at.chunk at'.chunk at.rest at'.rest word (sym at.parts ∙ at'.parts)
      (omega (arith, at.from)) (omega (arith, at.from, at.below)) (omega (arith, at'.from)) (omega (arith, at'.from, at'.below)) in
      at.is
      ∙ ap (λ (cs : List (List ℕ)). site_at memory cs at.chunk address) both.0
      ∙ ap (λ (ws : List ℕ). site_at memory at'.front ws address) both.1
      ∙ sym at'.is

  pub one_site : AllByRecursion IsChunk memory.chunks → (one other : Site) → IsSite memory address one → IsSite memory address other
      → one ≡ other
  one_site all one other is is' =
      elim (located all one is) [
        | inl outside ↦ elim (located all other is') [
          | inl outside' ↦ outside ∙ sym outside'
          | inr at' ↦ absurd (not_outside other at' (subst (IsSite memory address) outside is))
        ]
        | inr at ↦ elim (located all other is') [
          | inl outside' ↦ absurd (not_outside one at (subst (IsSite memory address) outside' is'))
          | inr at' ↦ same_located one other at at'
        ]
      ]
