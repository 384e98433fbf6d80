-- What is written can be read again: the same bytes are written of objects that match.
-- Serves `ConverseLemmas`.
use Rattle.std.proofs.Common.{◌≡◌, ℕ, zero, suc, ◌+◌, ◌-◌, ◌*◌, ◌^◌, ◌<◌, Bool, true, false, cond, nat_lt, List, [], ◌∷◌, ◌++◌, map, length, take, drop}
use Rattle.std.proofs.Common.{slice_index, Option, Some, None, refl, sym, ap, ◌∙◌, arith, IfSome}
use Rattle.std.specs.Prelude.{flat_map, option_and_then, option_map}
use Rattle.std.specs.List.{AllZip, AllByRecursion}
use Rattle.std.proofs.lemmas.List.{append_assoc, length-append, length-drop, take_at, drop_at, get_or-drop}
use Rattle.sqz_object.specs.declared.chunk.Kind.{Kind}
use Rattle.sqz_object.specs.declared.chunk.Kind.TheVariants.{Three, Two, Free, Short}
use Rattle.sqz_object.specs.declared.layout.Layout.{Layout}
use Rattle.sqz_object.specs.declared.layout.Layout.TheVariants.{Fields, Weak, Context, Words, Bytes, Method}
use Rattle.sqz_object.specs.declared.order.Order.{Order}
use Rattle.sqz_object.specs.declared.order.Order.TheVariants.{Little}
use Rattle.sqz_object.specs.Bytes.{bytes_of, words_of, spelling_of}
use Rattle.sqz_object.specs.Chunk.{chunk_kind, words_before, before, fields}
use Rattle.sqz_object.specs.Layout.{layout}
use Rattle.sqz_object.proofs.WordLemmas.{length-bytes_of, length-spelling_of, words_of-spelling_of}
use Rattle.sqz_image.specs.declared.slot.Slot.{Slot}
use Rattle.sqz_image.specs.declared.slot.Slot.TheVariants.{ClassWord, Field}
use Rattle.sqz_image.specs.Objects.{chunk_words}
use Rattle.sqz_trace.specs.Edges.{nil}
use Rattle.sqz_trace.specs.Slots.{class_address, class_word, slot_word, traced, field_slots}
use Rattle.sqz_trace.specs.Targets.{named_by}
use Rattle.sqz_trace.proofs.SlotLemmas.{traced_inside}
use Rattle.sqz_alike.specs.Alike.{untraced, UntracedMatch, HeadersMatch, WordsMatch}
use Rattle.sqz_alike.specs.Seen.{Seen, seen_target, live_or_nil}
use Rattle.sqz_alike.specs.Found.{slots_of}
use Rattle.sqz_alike.specs.Written.{kind_number, slot_words, slot_bytes, header_words, header_bytes, untraced_order, untraced_bytes, object_bytes}
use Rattle.sqz_alike.proofs.AlikeLemmas.{layout-match}
use Rattle.sqz_alike.proofs.PlaceLemmas.{place_of-le}

-- ---- lists whose front has a known length

split : {A : Type 0} (a b s t : List A) → length a ≡ length b → a ++ s ≡ b ++ t → (a ≡ b) × (s ≡ t)
split a b s t long same = (
  sym (take_at a s (length b) long) ∙ ap (take (length b)) same ∙ take_at b t (length b) refl,
  sym (drop_at a s (length b) long) ∙ ap (drop (length b)) same ∙ drop_at b t (length b) refl,
)

-- pieces whose lengths are known
split_each : {X A : Type 0} (f g : X → List A) → ((x : X) → length (f x) ≡ length (g x)) → (xs : List X) (s t : List A)
    → flat_map f xs ++ s ≡ flat_map g xs ++ t → AllByRecursion (λ x. f x ≡ g x) xs × (s ≡ t)
split_each f g long [] s t same = (tt, same)
split_each f g long (x ∷ xs) s t same =
    let first =
    split (f x) (g x) (flat_map f xs ++ s) (flat_map g xs ++ t) (long x)
    (sym (append_assoc (f x) (flat_map f xs) s) ∙ same ∙ append_assoc (g x) (flat_map g xs) t) in
    let rest = split_each f g long xs s t first.1 in
    ((first.0, rest.0), rest.1)

-- pieces that tell where they end
pub split_all : {X Y A : Type 0} (R : X → Y → Type 0) (f : X → List A) (g : Y → List A) → ((x : X) → 0 < length (f x)) → ((y : Y) → 0 < length (g y))
    → ((x : X) (y : Y) (s t : List A) → f x ++ s ≡ g y ++ t → R x y × (s ≡ t))
    → (xs : List X) (ys : List Y) → flat_map f xs ≡ flat_map g ys → AllZip R xs ys
split_all R f g some other_some one [] [] same = tt
split_all R f g some other_some one [] (y ∷ ys) same =
    absurd (omega (arith, ap length same, length-append (g y) (flat_map g ys), other_some y))
split_all R f g some other_some one (x ∷ xs) [] same =
    absurd (omega (arith, ap length same, length-append (f x) (flat_map f xs), some x))
split_all R f g some other_some one (x ∷ xs) (y ∷ ys) same =
    let first = one x y (flat_map f xs) (flat_map g ys) same in
    (first.0, split_all R f g some other_some one xs ys first.1)

-- ---- words

-- every word has 32 bits
pub record AreWords (words : List ℕ) : Type 0 where
  pub each : (k : ℕ) → slice_index words k < 2 ^ 32

AreWords-none : AreWords []
AreWords-none = record { each = λ k. omega arith }

AreWords-cons : {word : ℕ} {words : List ℕ} → word < 2 ^ 32 → AreWords words → AreWords (word ∷ words)
AreWords-cons {word} {words} fits all =
    record { each = each } where
      each : (k : ℕ) → slice_index (word ∷ words) k < 2 ^ 32
      each zero = fits
      each (suc k) = all.each k

AreWords-drop : (count : ℕ) {words : List ℕ} → AreWords words → AreWords (drop count words)
AreWords-drop count {words} all = record { each = λ k. rw (get_or-drop count words k 0) (all.each (count + k)) }

spelling_of-injective : (order : Order) (words others : List ℕ) → AreWords words → AreWords others
    → spelling_of order words ≡ spelling_of order others → words ≡ others
spelling_of-injective order words others fits other_fits same =
    sym (words_of-spelling_of order words fits.each) ∙ ap (words_of order) same ∙ words_of-spelling_of order others other_fits.each

-- words that are the same bytes, each in its byte order
bytes-same : (order other_order : Order) (words others : List ℕ) → spelling_of order words ≡ spelling_of other_order others
    → map (bytes_of order) words ≡ map (bytes_of other_order) others
bytes-same order other_order [] [] same = refl
bytes-same order other_order [] (other ∷ others) same =
    absurd (omega (arith, ap length same, length-append (bytes_of other_order other) (spelling_of other_order others), length-bytes_of other_order other))
bytes-same order other_order (word ∷ words) [] same =
    absurd (omega (arith, ap length same, length-append (bytes_of order word) (spelling_of order words), length-bytes_of order word))
bytes-same order other_order (word ∷ words) (other ∷ others) same =
    let parts =
    split (bytes_of order word) (bytes_of other_order other) (spelling_of order words) (spelling_of other_order others)
    (length-bytes_of order word ∙ sym (length-bytes_of other_order other)) same in
    ap (λ (bytes : List ℕ). bytes ∷ map (bytes_of order) words) parts.0
    ∙ ap (λ (rest : List (List ℕ)). bytes_of other_order other ∷ rest) (bytes-same order other_order words others parts.1)

untraced-match : (form : Layout) (order other_order : Order) (words others : List ℕ) → AreWords words → AreWords others
    → spelling_of (untraced_order form order) words ≡ spelling_of (untraced_order form other_order) others
    → UntracedMatch form order other_order words others
untraced-match Fields order other_order words others fits other_fits same = spelling_of-injective Little words others fits other_fits same
untraced-match Weak order other_order words others fits other_fits same = spelling_of-injective Little words others fits other_fits same
untraced-match Context order other_order words others fits other_fits same = spelling_of-injective Little words others fits other_fits same
untraced-match Words order other_order words others fits other_fits same = spelling_of-injective Little words others fits other_fits same
untraced-match (Bytes unused) order other_order words others fits other_fits same = bytes-same order other_order words others same
untraced-match Method order other_order words others fits other_fits same = bytes-same order other_order words others same

-- ---- headers

kind_from : ℕ → Kind
kind_from zero = Three
kind_from (suc zero) = Two
kind_from (suc (suc zero)) = Free
kind_from (suc (suc (suc n))) = Short

kind_from-number : (kind : Kind) → kind_from (kind_number kind) ≡ kind
unfolding kind_from
kind_from-number Three = refl
kind_from-number Two = refl
kind_from-number Free = refl
kind_from-number Short = refl

kind_number-injective : (one other : Kind) → kind_number one ≡ kind_number other → one ≡ other
kind_number-injective one other same = sym (kind_from-number one) ∙ ap kind_from same ∙ kind_from-number other

kind_number-lt : (kind : Kind) → kind_number kind < 4
kind_number-lt Three = omega arith
kind_number-lt Two = omega arith
kind_number-lt Free = omega arith
kind_number-lt Short = omega arith

-- a chunk of 32-bit words, of which there are fewer than 2 ^ 32
pub record IsSmall (chunk : List ℕ) : Type 0 where
  pub words : AreWords chunk
  pub few : length chunk < 2 ^ 32

header-fits : (chunk : List ℕ) → IsSmall chunk → AreWords (header_words chunk)
header-fits chunk small =
    let some = kind_number-lt (chunk_kind chunk) in
    let inside = traced_inside chunk in
    let shorter = length-drop (before chunk + 1) chunk in
    let few = small.few in
    let counted : traced chunk < 2 ^ 32 = omega (arith, inside, shorter, few) in
    AreWords-cons (omega (arith, some)) (AreWords-cons few (AreWords-cons (omega arith) (AreWords-cons (omega arith)
    (AreWords-cons (omega arith) (AreWords-cons counted AreWords-none)))))

-- the headers of two chunks match, and as many of their fields are traced
pub record HeadersAgree (one other : List ℕ) : Type 0 where
  pub headers : HeadersMatch one other
  pub traced : traced one ≡ traced other

headers-read : (one other : List ℕ) → header_words one ≡ header_words other → HeadersAgree one other
headers-read one other same =
    record {
      headers = record {
        kind = kind_number-injective (chunk_kind one) (chunk_kind other) (ap (λ (words : List ℕ). slice_index words 0) same);
        size = ap (λ (words : List ℕ). slice_index words 1) same;
        format = ap (λ (words : List ℕ). slice_index words 2) same;
        compact = ap (λ (words : List ℕ). slice_index words 3) same;
        hash = ap (λ (words : List ℕ). slice_index words 4) same;
      };
      traced = ap (λ (words : List ℕ). slice_index words 5) same;
    }

-- ---- slots

-- the number of words that are written of a slot which holds this word
words_held : Option ℕ → ℕ
words_held None = 0
words_held (Some word) = 2

slot_words-two : (found : List ℕ) (target : Option ℕ) (word : ℕ) → length (slot_words found target (Some word)) ≡ 2
slot_words-two found None word = refl
slot_words-two found (Some target) word = refl

length-slot_words : (found : List ℕ) (nil : Option ℕ) (marks : List Bool) (named : ℕ → Option ℕ) (word : Option ℕ)
    → length (slot_words found (live_or_nil nil marks (option_and_then named word)) word) ≡ words_held word
unfolding words_held
length-slot_words found nil marks named None = refl
length-slot_words found nil marks named (Some word) = slot_words-two found (live_or_nil nil marks (named word)) word

length-slot_bytes : (seen : Seen) (found : List ℕ) (object : ℕ) (slot : Slot)
    → length (slot_bytes seen found object slot) ≡ 4 * words_held (slot_word (chunk_words seen.memory object) slot)
length-slot_bytes seen found object slot =
    let word = slot_word (chunk_words seen.memory object) slot in
    length-spelling_of Little (slot_words found (seen_target seen object slot) word)
    ∙ ap (λ (n : ℕ). 4 * n)
    (length-slot_words found (nil seen.memory seen.weak) seen.marks (named_by seen.memory) word)

class_held : Kind → ℕ
class_held Three = 2
class_held Two = 2
class_held Free = 0
class_held Short = 0

held-class : (kind : Kind) (chunk : List ℕ) → words_held (option_map class_address (class_word kind chunk)) ≡ class_held kind
unfolding words_held class_held
held-class Three chunk = refl
held-class Two chunk = refl
held-class Free chunk = refl
held-class Short chunk = refl

held-field : (test : Bool) (word : ℕ) → words_held (cond test (Some word) None) ≡ cond test 2 0
unfolding words_held
held-field true word = refl
held-field false word = refl

held-same : (one other : List ℕ) → HeadersAgree one other → (slot : Slot) → words_held (slot_word one slot) ≡ words_held (slot_word other slot)
held-same one other agree ClassWord =
    held-class (chunk_kind one) one
    ∙ ap class_held agree.headers.kind
    ∙ sym (held-class (chunk_kind other) other)
held-same one other agree (Field index) =
    held-field (nat_lt index (traced one)) (slice_index (fields one) index)
    ∙ ap (λ (count : ℕ). cond (nat_lt index count) 2 0) agree.traced
    ∙ sym (held-field (nat_lt index (traced other)) (slice_index (fields other) index))

-- ---- untraced words

length-untraced : (order : Order) (chunk : List ℕ) → length (untraced_bytes order chunk) ≡ 4 * (length chunk - (before chunk + 1) - traced chunk)
length-untraced order chunk =
    length-spelling_of (untraced_order (layout chunk) order) (untraced chunk)
    ∙ ap (λ (n : ℕ). 4 * n)
    (length-drop (traced chunk) (fields chunk)
    ∙ ap (λ (n : ℕ). n - traced chunk) (length-drop (before chunk + 1) chunk))

length-untraced-same : (order other_order : Order) (one other : List ℕ) → HeadersAgree one other
    → length (untraced_bytes order one) ≡ length (untraced_bytes other_order other)
length-untraced-same order other_order one other agree =
    length-untraced order one
    ∙ ap (λ (size : ℕ). 4 * (size - (before one + 1) - traced one)) agree.headers.size
    ∙ ap (λ (kind : Kind). 4 * (length other - (words_before kind + 1) - traced one)) agree.headers.kind
    ∙ ap (λ (count : ℕ). 4 * (length other - (before other + 1) - count)) agree.traced
    ∙ sym (length-untraced other_order other)

-- ---- objects

-- the same is written of two objects, part by part
pub record AreWrittenAlike (old new : Seen) (found others : List ℕ) (one other : ℕ) : Type 0 where
  pub agree : HeadersAgree (chunk_words old.memory one) (chunk_words new.memory other)
  pub slots : AllByRecursion (λ slot. slot_bytes old found one slot ≡ slot_bytes new others other slot) (slots_of (chunk_words old.memory one))
  pub rest : untraced_bytes old.memory.order (chunk_words old.memory one) ≡ untraced_bytes new.memory.order (chunk_words new.memory other)

regroup : (a b c d : List ℕ) → a ++ b ++ c ++ d ≡ a ++ (b ++ (c ++ d))
regroup a b c d = simp append_assoc

pub object-split : (old new : Seen) (found others : List ℕ) (one other : ℕ) (s t : List ℕ) → IsSmall (chunk_words old.memory one)
    → IsSmall (chunk_words new.memory other) → object_bytes old found one ++ s ≡ object_bytes new others other ++ t
    → AreWrittenAlike old new found others one other × (s ≡ t)
object-split old new found others one other s t small other_small same =
    let chunk = chunk_words old.memory one in
    let other_chunk = chunk_words new.memory other in
    let slots = flat_map (slot_bytes old found one) (slots_of chunk) in
    let other_slots = flat_map (slot_bytes new others other) (slots_of other_chunk) in
    let rest = untraced_bytes old.memory.order chunk in
    let other_rest = untraced_bytes new.memory.order other_chunk in
    let first =
    split (header_bytes chunk) (header_bytes other_chunk) (slots ++ (rest ++ s)) (other_slots ++ (other_rest ++ t)) refl
    (sym (regroup (header_bytes chunk) slots rest s)
    ∙ same
    ∙ regroup (header_bytes other_chunk) other_slots other_rest t) in
    let agree : HeadersAgree chunk other_chunk =
    headers-read chunk other_chunk
    (spelling_of-injective Little (header_words chunk) (header_words other_chunk) (header-fits chunk small) (header-fits other_chunk other_small) first.0) in
    let second =
    split_each (slot_bytes old found one) (slot_bytes new others other)
    (λ slot. length-slot_bytes old found one slot
    ∙ ap (λ (n : ℕ). 4 * n) (held-same chunk other_chunk agree slot)
    ∙ sym (length-slot_bytes new others other slot)) (slots_of chunk) (rest ++ s) (other_rest ++ t)
    (first.1
    ∙ ap (λ (count : ℕ). flat_map (slot_bytes new others other) (ClassWord ∷ field_slots 0 count) ++ (other_rest ++ t)) (sym agree.traced)) in
    let third = split rest other_rest s t (length-untraced-same old.memory.order new.memory.order chunk other_chunk agree) second.1 in
    (record { agree = agree; slots = second.0; rest = third.0 }, third.1)

pub length-object_bytes : (seen : Seen) (found : List ℕ) (object : ℕ) → 0 < length (object_bytes seen found object)
length-object_bytes seen found object =
    let chunk = chunk_words seen.memory object in
    let slots = flat_map (slot_bytes seen found object) (slots_of chunk) in
    let header : length (header_bytes chunk) ≡ 24 = refl in
    omega (
      arith,
      header,
      length-append (header_bytes chunk) slots,
      length-append (header_bytes chunk ++ slots) (untraced_bytes seen.memory.order chunk),
    )

-- objects of which the same is written have the same words but for those of their slots
pub words-match : (old new : Seen) (found others : List ℕ) (one other : ℕ) → IsSmall (chunk_words old.memory one)
    → IsSmall (chunk_words new.memory other) → AreWrittenAlike old new found others one other
    → WordsMatch old.memory.order new.memory.order (chunk_words old.memory one) (chunk_words new.memory other)
words-match old new found others one other small other_small alike =
    let chunk = chunk_words old.memory one in
    let other_chunk = chunk_words new.memory other in
    record {
      headers = alike.agree.headers;
      traced = alike.agree.traced;
      untraced = untraced-match (layout chunk) old.memory.order new.memory.order (untraced chunk) (untraced other_chunk)
          (AreWords-drop (traced chunk) (AreWords-drop (before chunk + 1) small.words))
          (AreWords-drop (traced other_chunk) (AreWords-drop (before other_chunk + 1) other_small.words))
          (alike.rest
          ∙ ap (λ (form : Layout). spelling_of (untraced_order form new.memory.order) (untraced other_chunk))
          (sym (layout-match chunk other_chunk alike.agree.headers)));
    }

-- ---- the words of a slot

slot_word-field : (test : Bool) (word : ℕ) → word < 2 ^ 32 → IfSome (cond test (Some word) None) (λ held. held < 2 ^ 32)
slot_word-field true word fits = fits
slot_word-field false word fits = tt

slot_word-class : (kind : Kind) (chunk : List ℕ) → AreWords chunk → IfSome (option_map class_address (class_word kind chunk)) (λ held. held < 2 ^ 32)
slot_word-class Three chunk fits = omega (arith, fits.each 1)
slot_word-class Two chunk fits = omega (arith, fits.each 0)
slot_word-class Free chunk fits = tt
slot_word-class Short chunk fits = tt

slot_word-fits : (chunk : List ℕ) → AreWords chunk → (slot : Slot) → IfSome (slot_word chunk slot) (λ held. held < 2 ^ 32)
slot_word-fits chunk fits ClassWord = slot_word-class (chunk_kind chunk) chunk fits
slot_word-fits chunk fits (Field index) =
    slot_word-field (nat_lt index (traced chunk)) (slice_index (fields chunk) index) ((AreWords-drop (before chunk + 1) fits).each index)

slot_words-fit : (found : List ℕ) (target word : Option ℕ) → length found < 2 ^ 32 → IfSome word (λ held. held < 2 ^ 32)
    → AreWords (slot_words found target word)
slot_words-fit found (Some target) word few fits =
    AreWords-cons (omega arith) (AreWords-cons (omega (arith, few, place_of-le found target)) AreWords-none)
slot_words-fit found None (Some word) few fits = AreWords-cons (omega arith) (AreWords-cons fits AreWords-none)
slot_words-fit found None None few fits = AreWords-none

pub slot_words-read : (old new : Seen) (found others : List ℕ) (one other : ℕ) → AreWords (chunk_words old.memory one)
    → AreWords (chunk_words new.memory other) → length found < 2 ^ 32 → length others < 2 ^ 32 → (slot : Slot)
    → slot_bytes old found one slot ≡ slot_bytes new others other slot
    → slot_words found (seen_target old one slot) (slot_word (chunk_words old.memory one) slot)
    ≡ slot_words others (seen_target new other slot) (slot_word (chunk_words new.memory other) slot)
slot_words-read old new found others one other fits other_fits few other_few slot same =
    let word = slot_word (chunk_words old.memory one) slot in
    let other_word = slot_word (chunk_words new.memory other) slot in
    spelling_of-injective Little (slot_words found (seen_target old one slot) word) (slot_words others (seen_target new other slot) other_word)
    (slot_words-fit found (seen_target old one slot) word few (slot_word-fits (chunk_words old.memory one) fits slot))
    (slot_words-fit others (seen_target new other slot) other_word other_few (slot_word-fits (chunk_words new.memory other) other_fits slot)) same
