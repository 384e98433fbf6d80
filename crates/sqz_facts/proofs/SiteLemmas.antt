-- What lies at an address.
-- Serves `sites::site_of` and `OneSiteLemmas`.
use Rattle.std.proofs.Common.{◌≡◌, ◌≢◌, ℕ, ◌+◌, ◌-◌, ◌*◌, ◌/◌, ◌%◌, ◌<◌, ◌≤◌, Bool, true, false, eqb, leb, ◌&&◌, List, [], ◌∷◌, ◌++◌}
use Rattle.std.proofs.Common.{length, map, cond, get_or, refl, sym, ap, subst, ◌∙◌, arith, inl, inr, add-zero}
use Rattle.std.specs.List.{concat}
use Rattle.std.proofs.Math.Seq.{get_or-append_seam}
use Rattle.std.proofs.lemmas.Bool.{cases_Bool, true≢false, leb-true, leb-false, eqb-true, eq-eqb, and_parts, and_from}
use Rattle.std.proofs.lemmas.List.{length-append, length-drop}
use Rattle.sqz_object.specs.declared.chunk.Chunk.{Chunk}
use Rattle.sqz_object.specs.declared.chunk.Kind.TheVariants.{Free}
use Rattle.sqz_object.specs.Chunk.{before, is_object}
use Rattle.sqz_image.specs.Objects.{Memory, Object, objects_of, objects, object_count, object_at, chunk_words}
use Rattle.sqz_image.specs.Objects.{address_of, moved_on}
use Rattle.sqz_image.proofs.IndexLemmas.{objects_of-append}
use Rattle.sqz_image.proofs.ObjectLemmas.{before-chunk}
use Rattle.sqz_facts.specs.declared.placed.PlacedChunk.{PlacedChunk}
use Rattle.sqz_facts.specs.declared.sites.Site.TheVariants as site
use Rattle.sqz_facts.specs.Placed.{HasWord}
use Rattle.sqz_facts.specs.Sites.{IsSite, object_site}
use Rattle.sqz_facts.proofs.WalkLemmas.{is_object-used}

-- ---- the object that a chunk is

-- the objects of some chunks, if one of them is an object
objects_of-split : (front rest : List (List ℕ)) (chunk : List ℕ) → is_object chunk ≡ true
    → (behind : List Object) × (objects_of (front ++ chunk ∷ rest)
    ≡ objects_of front ++ record { first = length (concat front); chunk = chunk } ∷ behind)
objects_of-split front rest chunk used = (
  map (moved_on (length (concat front))) (map (moved_on (length chunk)) (objects_of rest)),
  objects_of-append front (chunk ∷ rest) ∙ rw (used, add-zero) refl,
)

-- it has its index among the objects
module _ (memory : Memory) (front rest : List (List ℕ)) (chunk : List ℕ) (parts : memory.chunks ≡ front ++ chunk ∷ rest)
    (used : is_object chunk ≡ true) where
  abbrev object : Object
  object = record { first = length (concat front); chunk = chunk }

  objects_are : objects memory ≡ objects_of front ++ object ∷ (objects_of-split front rest chunk used).0
  objects_are = ap objects_of parts ∙ (objects_of-split front rest chunk used).1

  placed_inside : length (objects_of front) < object_count memory
  placed_inside =
      omega (arith, ap length objects_are, length-append (objects_of front) (object ∷ (objects_of-split front rest chunk used).0))

  pub object_at-placed : object_at memory (length (objects_of front)) ≡ object
  object_at-placed =
      ap (λ (os : List Object). get_or os (length (objects_of front)) (record { first = 0; chunk = [] })) objects_are
      ∙ get_or-append_seam (objects_of front) object (objects_of-split front rest chunk used).0 (record { first = 0; chunk = [] })

-- ---- what lies at a byte of an object

module _ (memory : Memory) (index address byte : ℕ) (inside : index < object_count memory)
    (headed : before (chunk_words memory index) < length (chunk_words memory index))
    (at : address ≡ memory.base + 4 * (object_at memory index).first + byte)
    (within : byte < 4 * length (chunk_words memory index)) where
  abbrev words : List ℕ
  words = chunk_words memory index

  abbrev is_base : Bool
  is_base = eqb (byte / 4) (before words) && eqb (byte % 4) 0

  -- no other byte has the object's address
  not_base : is_base ≡ false → address ≢ address_of memory index
  not_base other same =
      let word : byte / 4 ≡ before words = omega (arith, at, same) in
      let first : byte % 4 ≡ 0 = omega (arith, at, same) in
      true≢false (sym (and_from _ _ (eq-eqb _ _ word) (eq-eqb _ _ first)) ∙ other)

  not_at_base : is_base ≡ false
      → IsSite memory address
      (cond (leb (byte / 4) (before words)) (site.HeaderWord index) (site.Field index (byte / 4 - before words - 1)))
  not_at_base other =
      elim (cases_Bool (leb (byte / 4) (before words))) [
        | inl low ↦
            let le : byte / 4 ≤ before words = leb-true _ _ low in
            rw low (inside, (omega (arith, at), omega (arith, at, le)), not_base other)
        | inr high ↦
            let gt : before words < byte / 4 = leb-false _ _ high in
            rw high (
              inside,
              omega (arith, gt, within, headed, length-drop (before words + 1) words),
              (omega (arith, at, gt), omega (arith, at, gt)),
            )
      ]

  IsSite-byte : IsSite memory address (object_site index (before words) byte)
  IsSite-byte =
      elim (cases_Bool is_base) [
        | inl is ↦
            let parts = and_parts (eqb (byte / 4) (before words)) (eqb (byte % 4) 0) is in
            rw is (inside, omega (arith, at, eqb-true _ _ parts.0, eqb-true _ _ parts.1))
        | inr other ↦ rw other (not_at_base other)
      ]

-- ---- what lies at an address whose word a chunk has

pub IsSite-found : (memory : Memory) (word : ℕ) (placed : PlacedChunk) → HasWord memory word placed
    → (placed.header.kind ≡ Free → ⊥) → (address offset : ℕ) → address ≡ memory.base + offset → word ≡ offset / 4
    → IsSite memory address (object_site placed.object placed.header.before (offset - 4 * placed.first))
IsSite-found memory word placed has used address offset at word_is =
    let chunk = has.chunk in
    let is = is_object-used chunk has.is_chunk (λ free. used (ap (λ (h : Chunk). h.kind) has.header ∙ free)) in
    let object_is = object_at-placed memory has.front has.rest chunk has.parts is in
    let index = length (objects_of has.front) in
    let words_are : chunk_words memory index ≡ chunk = ap (λ (o : Object). o.chunk) object_is in
    let first_is : (object_at memory index).first ≡ placed.first = ap (λ (o : Object). o.first) object_is ∙ sym has.begins in
    let before_is : before (chunk_words memory index) ≡ placed.header.before =
    ap before words_are ∙ sym (ap (λ (h : Chunk). h.before) has.header) in
    let byte = offset - 4 * placed.first in
    subst (λ (n : ℕ). IsSite memory address (object_site n placed.header.before byte)) (sym has.object)
    (subst (λ (n : ℕ). IsSite memory address (object_site index n byte)) before_is
    (IsSite-byte memory index address byte (placed_inside memory has.front has.rest chunk has.parts is)
    (subst (λ (ws : List ℕ). before ws < length ws) (sym words_are) (before-chunk chunk has.is_chunk))
    (omega (arith, at, first_is, has.from, word_is))
    (omega (arith, ap length words_are, has.below, has.from, word_is))))
