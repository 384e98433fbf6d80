-- Steps of the walk that are hashed.
-- Serves `hashing::object::hash_header`, `::hash_slot`, `::hash_slots` and `::hash_object`.
use Rattle.std.proofs.Common.{◌≡◌, ℕ, List, [], ◌∷◌, ◌++◌, length, Option, Some, None, sym, ap, subst, ◌∙◌}
use Rattle.std.specs.Prelude.{fold, filter_map, flat_map}
use Rattle.std.specs.List.{cons_option}
use Rattle.std.proofs.lemmas.Grind.{flat_map-append}
use Rattle.std.proofs.lemmas.List.{append-nil, append_assoc}
use Rattle.std.proofs.lemmas.List.Elements.{filter_map-append}
use Rattle.std.proofs.lemmas.List.Sums.{fold-append}
use Rattle.sha2.specs.declared.Sha256.{Sha256}
use Rattle.sha2.specs.Hashers.{Holds256}
use Rattle.sqz_object.specs.declared.base.Base.{Base}
use Rattle.sqz_object.specs.declared.chunk.Chunk.{Chunk}
use Rattle.sqz_object.specs.Bytes.{spelling_of}
use Rattle.sqz_object.specs.Chunk.{chunk_kind, base_word, format, compact_index}
use Rattle.sqz_object.specs.Reading.{description}
use Rattle.sqz_object.specs.Value.{base_of}
use Rattle.sqz_object.specs.declared.order.Order.TheVariants.{Little}
use Rattle.sqz_image.specs.declared.slot.Slot.{Slot}
use Rattle.sqz_image.specs.Objects.{chunk_words}
use Rattle.sqz_trace.specs.Slots.{slot_word, traced}
use Rattle.sqz_alike.specs.Seen.{Seen, seen_target}
use Rattle.sqz_alike.specs.Found.{place_of, with_object, slots_of, with_targets}
use Rattle.sqz_alike.specs.Hashing.{Takes, HashesSlots, HashesObject}
use Rattle.sqz_alike.specs.Written.{kind_number, header_words, header_bytes, slot_words, slot_bytes, untraced_bytes}
use Rattle.sqz_alike.proofs.PlaceLemmas.{place_of-with_object, with_objects-more}

-- ---- bytes that are taken

Takes-then : {a b c : Sha256} {xs ys : List ℕ} → Takes a b xs → Takes b c ys → Takes a c (xs ++ ys)
Takes-then {c = c} {xs = xs} {ys = ys} p q =
    record {
      taken = λ message holds.
          subst (Holds256 c) (append_assoc message xs ys) (q.taken (message ++ xs) (p.taken message holds));
    }

Takes-same : {a b : Sha256} {xs ys : List ℕ} → xs ≡ ys → Takes a b xs → Takes a b ys
Takes-same {a} {b} e takes = subst (Takes a b) e takes

-- ---- headers

-- what is read of a header is what is written of it
header_words-read : (chunk : List ℕ) (base : Base) (kind traced_count : ℕ) → base ≡ base_of (base_word chunk)
    → kind ≡ kind_number (chunk_kind chunk) → traced_count ≡ traced chunk
    → (kind ∷ length chunk ∷ base.format ∷ base.compact ∷ base.hash ∷ traced_count ∷ []) ≡ header_words chunk
header_words-read chunk base kind traced_count base_is kind_is traced_is =
    ap (λ (number : ℕ). number ∷ length chunk ∷ base.format ∷ base.compact ∷ base.hash ∷ traced_count ∷ []) kind_is
    ∙ ap (λ (b : Base). kind_number (chunk_kind chunk) ∷ length chunk ∷ b.format ∷ b.compact ∷ b.hash ∷ traced_count ∷ []) base_is
    ∙ ap (λ (count : ℕ). kind_number (chunk_kind chunk) ∷ length chunk ∷ format chunk ∷ compact_index chunk ∷ (base_of (base_word chunk)).hash ∷ count ∷ []) traced_is

pub header-taken : {a b c d : Sha256} (chunk : List ℕ) (header : Chunk) (base : Base) (kind traced_count : ℕ) → header ≡ description chunk
    → base ≡ base_of header.base → kind ≡ kind_number header.kind → traced_count ≡ traced chunk
    → Takes a b (spelling_of Little (kind ∷ header.length ∷ [])) → Takes b c (spelling_of Little (base.format ∷ base.compact ∷ []))
    → Takes c d (spelling_of Little (base.hash ∷ traced_count ∷ [])) → Takes a d (header_bytes chunk)
header-taken {a} {b} chunk header base kind traced_count described base_is kind_is traced_is first second third =
    let first_of : Takes a b (spelling_of Little (kind ∷ length chunk ∷ [])) =
    subst (λ (h : Chunk). Takes a b (spelling_of Little (kind ∷ h.length ∷ []))) described first in
    Takes-same
    (ap (spelling_of Little)
    (header_words-read chunk base kind traced_count (base_is ∙ ap (λ (h : Chunk). base_of h.base) described)
    (kind_is ∙ ap (λ (h : Chunk). kind_number h.kind) described) traced_is))
    (Takes-then (Takes-then first_of second) third)

-- ---- slots

module _ (seen : Seen) (object : ℕ) where
  with_targets-append : (found : List ℕ) (xs ys : List Slot)
      → with_targets seen object found (xs ++ ys) ≡ with_targets seen object (with_targets seen object found xs) ys
  with_targets-append found xs ys =
      ap (fold with_object found) (filter_map-append (seen_target seen object) xs ys)
      ∙ fold-append with_object found (filter_map (seen_target seen object) xs) (filter_map (seen_target seen object) ys)

  pub HashesSlots-then : {xs ys : List Slot} {old middle new : List ℕ} {a b c : Sha256} → HashesSlots seen object xs old middle a b
      → HashesSlots seen object ys middle new b c → HashesSlots seen object (xs ++ ys) old new a c
  HashesSlots-then {xs} {ys} {old} {middle} {new} {a} {b} {c} p q =
      let added = with_objects-more middle (filter_map (seen_target seen object) ys) in
      record {
        found =
            q.found
            ∙ ap (λ (found : List ℕ). with_targets seen object found ys) p.found
            ∙ sym (with_targets-append old xs ys);
        taken = λ later.
            let whole : middle ++ (added.0 ++ later) ≡ new ++ later =
            sym (append_assoc middle added.0 later) ∙ ap (λ (found : List ℕ). found ++ later) (sym (q.found ∙ added.1)) in
            let first : Takes a b (flat_map (slot_bytes seen (new ++ later) object) xs) =
            subst (λ (found : List ℕ). Takes a b (flat_map (slot_bytes seen found object) xs)) whole (p.taken (added.0 ++ later)) in
            Takes-same (sym (flat_map-append (slot_bytes seen (new ++ later) object) xs ys)) (Takes-then first (q.taken later));
      }

  module _ (slot : Slot) (old : List ℕ) (before after : Sha256) where
    abbrev word : Option ℕ
    word = slot_word (chunk_words seen.memory object) slot

    abbrev bytes : List ℕ → Option ℕ → List ℕ
    bytes found target = spelling_of Little (slot_words found target word)

    -- a slot that leads to an object
    pub HashesSlots-target : (target place : ℕ) (new : List ℕ) → seen_target seen object slot ≡ Some target → new ≡ with_object old target
        → place ≡ place_of old target → Takes before after (spelling_of Little (1 ∷ place ∷ []))
        → HashesSlots seen object (slot ∷ []) old new before after
    HashesSlots-target target place new leads new_is place_is takes =
        record {
          found = new_is ∙ ap (λ (o : Option ℕ). fold with_object old (cons_option o [])) (sym leads);
          taken = λ later.
              let same : place ≡ place_of (new ++ later) target =
              place_is
              ∙ sym (place_of-with_object old later target)
              ∙ ap (λ (found : List ℕ). place_of (found ++ later) target) (sym new_is) in
              Takes-same
              (ap (λ (p : ℕ). spelling_of Little (1 ∷ p ∷ [])) same
              ∙ ap (bytes (new ++ later)) (sym leads)
              ∙ sym (append-nil (slot_bytes seen (new ++ later) object slot))) takes;
        }

    -- a slot that leads to no object
    pub HashesSlots-none : seen_target seen object slot ≡ None
        → ((found : List ℕ) → Takes before after (spelling_of Little (slot_words found None word)))
        → HashesSlots seen object (slot ∷ []) old old before after
    HashesSlots-none none takes =
        record {
          found = ap (λ (o : Option ℕ). fold with_object old (cons_option o [])) (sym none);
          taken = λ later.
              Takes-same
              (ap (bytes (old ++ later)) (sym none)
              ∙ sym (append-nil (slot_bytes seen (old ++ later) object slot))) (takes (old ++ later));
        }

-- ---- objects

-- an object whose parts are taken
pub HashesObject-parts : (seen : Seen) (object : ℕ) {old new : List ℕ} {a b c d : Sha256} → Takes a b (header_bytes (chunk_words seen.memory object))
    → HashesSlots seen object (slots_of (chunk_words seen.memory object)) old new b c
    → Takes c d (untraced_bytes seen.memory.order (chunk_words seen.memory object)) → HashesObject seen object old new a d
HashesObject-parts seen object {new = new} header slots rest =
    let chunk = chunk_words seen.memory object in
    record {
      found = slots.found;
      taken = λ later.
          let slots_taken = flat_map (slot_bytes seen (new ++ later) object) (slots_of chunk) in
          Takes-then {xs = header_bytes chunk ++ slots_taken} (Takes-then {xs = header_bytes chunk} header (slots.taken later)) rest;
    }
