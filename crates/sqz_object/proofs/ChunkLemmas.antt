-- What the words of a chunk say about it, and when no chunk begins with some words.
-- Serves `chunk::chunk_in`, `chunk::known_chunk` and `PartitionLemmas`; `CutLemmas`, `HeapLemmas`,
-- `IndexLemmas` and `ObjectLemmas` of `sqz_image`; `ShapeLemmas` of `sqz_trace`; `LengthLemmas`,
-- `MovedShapeLemmas` and `SettledLemmas` of `sqz_slide`; `WorkedImages` of `sqz_test_examples`.
use Rattle.std.proofs.Common.{◌≡◌, ℕ, zero, suc, ◌+◌, ◌-◌, ◌/◌, ◌%◌, ◌<◌, ◌≤◌, ◌⊎◌, Bool, true, false, not, ◌&&◌, cond}
use Rattle.std.proofs.Common.{eqb, ltb}
use Rattle.std.proofs.Common.{List, ◌∷◌, ◌++◌, length, take, drop, slice_index, Option, Some, None}
use Rattle.std.proofs.Common.{refl, sym, ap, subst, ◌∙◌, arith, inl, inr}
use Rattle.std.specs.List.{list_all}
use Rattle.std.proofs.lemmas.Bool.{ltb-false, eqb-true, eqb-false, lt-ltb, le-ltb, eq-eqb, ne_eqb, and_parts}
use Rattle.std.proofs.lemmas.List.{take-append-drop, length-append, length-take-le, get_or-take, take_at}
use Rattle.sqz_object.specs.declared.chunk.Kind.{Kind}
use Rattle.sqz_object.specs.declared.chunk.Kind.TheVariants.{Three, Two, Free, Short}
use Rattle.sqz_object.specs.declared.chunk.Chunk.{Chunk}
use Rattle.sqz_object.specs.declared.chunk.ChunkFault.{ChunkFault}
use Rattle.sqz_object.specs.declared.chunk.ChunkFault.TheVariants.{ZeroSize, HeaderMismatch, Overrun}
use Rattle.sqz_object.specs.Chunk.{header_type, size_field, IsChunkOf, IsChunk, kind_of, chunk_kind, words_before}
use Rattle.sqz_object.specs.Chunk.{before, base_word}
use Rattle.sqz_object.specs.Partition.{size_stated, stated_size, stated_length, is_of_one_type, chunk_fault}
use Rattle.sqz_object.specs.Reading.{BeginsWith, HasNoChunk, description}

-- ---- the kind that a header type stands for

-- a header type's kind
pub kind_of-three : (word : ℕ) → header_type word ≡ 0 → kind_of word ≡ Three
kind_of-three word e = rw e refl

pub kind_of-two : (word : ℕ) → header_type word ≡ 1 → kind_of word ≡ Two
kind_of-two word e = rw e refl

pub kind_of-free : (word : ℕ) → header_type word ≡ 2 → kind_of word ≡ Free
kind_of-free word e = rw e refl

pub kind_of-short : (word : ℕ) → header_type word ≡ 3 → kind_of word ≡ Short
kind_of-short word e = rw e refl

-- the header type of each kind
abbrev pub type_of : Kind → ℕ
type_of Three = 0
type_of Two = 1
type_of Free = 2
type_of Short = 3

-- the four numbers below four
cases_below_four : (n : ℕ) → n < 4 → (n ≡ 0) ⊎ ((n ≡ 1) ⊎ ((n ≡ 2) ⊎ (n ≡ 3)))
cases_below_four zero h = inl refl
cases_below_four (suc zero) h = inr (inl refl)
cases_below_four (suc (suc zero)) h = inr (inr (inl refl))
cases_below_four (suc (suc (suc zero))) h = inr (inr (inr refl))
cases_below_four (suc (suc (suc (suc n)))) h = absurd (omega arith)

-- the type of a word's kind is the word's
pub type_of-kind_of : (word : ℕ) → type_of (kind_of word) ≡ header_type word
type_of-kind_of word =
    elim (cases_below_four (word % 4) (omega arith)) [
      | inl e ↦ rw e refl
      | inr (inl e) ↦ rw e refl
      | inr (inr (inl e)) ↦ rw e refl
      | inr (inr (inr e)) ↦ rw e refl
    ]

-- ---- a chunk

-- a chunk has all its header words
pub chunk_has_header : (kind : Kind) (chunk : List ℕ) → IsChunkOf kind chunk → words_before kind < length chunk
chunk_has_header Three (size ∷ class ∷ base ∷ fields) h = omega arith
chunk_has_header Two (class ∷ base ∷ fields) h = omega arith
chunk_has_header Free (free ∷ rest) h = omega arith
chunk_has_header Short (base ∷ fields) h = omega arith
chunk_has_header _ _ h = absurd h

-- a chunk has a word
pub chunk_not_empty : (kind : Kind) (chunk : List ℕ) → IsChunkOf kind chunk → 1 ≤ length chunk
chunk_not_empty kind chunk h = let k = chunk_has_header kind chunk h in omega arith

pub length-chunk : (chunk : List ℕ) → IsChunk chunk → 1 ≤ length chunk
length-chunk chunk (kind, h) = chunk_not_empty kind chunk h

-- the first word of a chunk tells its kind
pub chunk_kind_is : (kind : Kind) (chunk : List ℕ) → IsChunkOf kind chunk → chunk_kind chunk ≡ kind
chunk_kind_is Three (size ∷ class ∷ base ∷ fields) h = kind_of-three size h.0
chunk_kind_is Two (class ∷ base ∷ fields) h = kind_of-two class h.0
chunk_kind_is Free (free ∷ rest) h = kind_of-free free h.0
chunk_kind_is Short (base ∷ fields) h = kind_of-short base h.0
chunk_kind_is _ _ h = absurd h

-- the kind that words begin with is that of any non-empty prefix
pub chunk_kind-take : (count : ℕ) (words : List ℕ) → 0 < count → chunk_kind (take count words) ≡ chunk_kind words
chunk_kind-take count words h = ap kind_of (get_or-take count words 0 0 h)

-- so is the base header, where the front has it
pub base_word-take : (count : ℕ) (words : List ℕ)
    → before words < count → base_word (take count words) ≡ base_word words
base_word-take count words h =
    let some : 0 < count = omega arith in
    let same : before (take count words) ≡ before words = ap words_before (chunk_kind-take count words some) in
    ap (λ (i : ℕ). slice_index (take count words) i) same ∙ get_or-take count words (before words) 0 h

-- ---- what a header states, of each kind

-- the four tests of `chunk_fault` in its order
faults : Bool → Bool → Bool → Bool → Option ChunkFault
faults short same empty over =
    cond short (Some Overrun)
    (cond (not same) (Some HeaderMismatch) (cond empty (Some ZeroSize) (cond over (Some Overrun) None)))

-- what they come to, by the first that applies
module _ (short same empty over : Bool) (a : short ≡ false) where
  faults_mismatch : same ≡ false → faults short same empty over ≡ Some HeaderMismatch
  unfolding faults
  faults_mismatch b = rw (a, b) refl

  module _ (b : same ≡ true) where
    faults_zero_size : empty ≡ true → faults short same empty over ≡ Some ZeroSize
    unfolding faults
    faults_zero_size c = rw (a, b, c) refl

    module _ (c : empty ≡ false) where
      faults_overrun : over ≡ true → faults short same empty over ≡ Some Overrun
      unfolding faults
      faults_overrun d = rw (a, b, c, d) refl

      no_fault : over ≡ false → faults short same empty over ≡ None
      unfolding faults
      no_fault d = rw (a, b, c, d) refl

-- a fault is not none
some_is_none : (f : ChunkFault) → Some f ≡ None → ⊥
some_is_none f e = cc

-- which tests have failed where there is no fault
no_fault_parts : (short same empty over : Bool)
    → faults short same empty over ≡ None → (short ≡ false) × (same ≡ true) × (empty ≡ false) × (over ≡ false)
unfolding faults
no_fault_parts true same empty over e = absurd (some_is_none Overrun e)
no_fault_parts false false empty over e = absurd (some_is_none HeaderMismatch e)
no_fault_parts false true true over e = absurd (some_is_none ZeroSize e)
no_fault_parts false true false true e = absurd (some_is_none Overrun e)
no_fault_parts false true false false e = (refl, refl, refl, refl)

-- the words at the front have a header whose size is of some words, and have those words
pub record HasRoom (words : List ℕ) : Type 0 where
  pub header : before words < length words
  pub one_type : is_of_one_type words ≡ true
  pub some_size : 0 < stated_size (chunk_kind words) words
  pub room : stated_length words ≤ length words

-- the three tests of words that have no name of their own: whether their header is longer than they are, whether it
-- states no words, and whether it states more than there are
abbrev is_short : List ℕ → Bool
is_short words = ltb (length words) (before words + 1)

abbrev is_empty : List ℕ → Bool
is_empty words = eqb (stated_size (chunk_kind words) words) 0

abbrev is_over : List ℕ → Bool
is_over words = ltb (length words) (stated_length words)

-- such words have no fault
pub no_fault_with_room : (words : List ℕ) → HasRoom words → chunk_fault words ≡ None
unfolding faults
no_fault_with_room words h =
    no_fault
    (is_short words) (is_of_one_type words) (is_empty words) (is_over words)
    (le-ltb _ _ (let lt = h.header in omega arith))
    h.one_type
    (ne_eqb _ _ (λ e. let lt = h.some_size in omega arith))
    (le-ltb _ _ h.room)

-- words with no fault have room
pub HasRoom-from_no_fault : (words : List ℕ) → chunk_fault words ≡ None → HasRoom words
unfolding faults
HasRoom-from_no_fault words e =
    let parts =
    no_fault_parts
    (is_short words) (is_of_one_type words) (is_empty words) (is_over words)
    e
    in
    let header : before words + 1 ≤ length words = ltb-false _ _ parts.0 in
    let size = eqb-false _ _ parts.2 in
    record {
      header = omega arith;
      one_type = parts.1;
      some_size = omega arith;
      room = ltb-false _ _ parts.3;
    }

-- the four reasons, each where those before it do not apply: first, no room for the header
pub fault_of_short_header : (words : List ℕ) → length words ≤ before words → chunk_fault words ≡ Some Overrun
fault_of_short_header words h = rw (lt-ltb (length words) (before words + 1) (omega arith)) refl

module _ (words : List ℕ) (lt : before words < length words) where
  has_header : ltb (length words) (before words + 1) ≡ false
  has_header = le-ltb _ _ (omega (arith, lt))

  -- header words of several types
  pub fault_of_types : is_of_one_type words ≡ false → chunk_fault words ≡ Some HeaderMismatch
  unfolding faults
  fault_of_types types =
      faults_mismatch
      (ltb (length words) (before words + 1))
      (is_of_one_type words)
      (eqb (stated_size (chunk_kind words) words) 0)
      (ltb (length words) (stated_length words))
      has_header
      types

  module _ (types : is_of_one_type words ≡ true) where
    -- a size of no words
    pub fault_of_zero_size : stated_size (chunk_kind words) words ≡ 0 → chunk_fault words ≡ Some ZeroSize
    unfolding faults
    fault_of_zero_size zero_size =
        faults_zero_size
        (is_short words) (is_of_one_type words) (is_empty words) (is_over words)
        has_header
        types
        (eq-eqb _ _ zero_size)

    -- more words stated than there are
    pub fault_of_overrun : 0 < stated_size (chunk_kind words) words → length words < stated_length words
        → chunk_fault words ≡ Some Overrun
    unfolding faults
    fault_of_overrun some long =
        faults_overrun
        (is_short words) (is_of_one_type words) (is_empty words) (is_over words)
        has_header
        types
        (ne_eqb _ _ (λ e. omega arith))
        (lt-ltb _ _ long)

-- words that begin with a chunk have room, and state its length
pub record StatesChunk (words : List ℕ) (size : ℕ) : Type 0 where
  pub has_room : HasRoom words
  pub states : stated_length words ≡ size

-- words state a chunk of this size if their header, read by its kind, states it and has one type
states_by_kind : (kind : Kind) (words : List ℕ) (size : ℕ)
    → chunk_kind words ≡ kind → is_of_one_type words ≡ true
    → words_before kind + size_stated kind (slice_index words 0) (slice_index words (words_before kind)) ≡ size
    → words_before kind < size → size ≤ length words → StatesChunk words size
states_by_kind kind words size is one_type states some room =
    let before_is : before words ≡ words_before kind = ap words_before is in
    let stated : stated_length words ≡ size = rw is states in
    record {
      has_room = record {
        header = omega arith;
        one_type = one_type;
        some_size = omega arith;
        room = omega arith;
      };
      states = stated;
    }

-- words that begin with a chunk do so
pub states_chunk : (kind : Kind) (chunk rest : List ℕ)
    → IsChunkOf kind chunk → StatesChunk (chunk ++ rest) (length chunk)
states_chunk Three (size ∷ class ∷ base ∷ fields) rest (a, b, c, len) =
    states_by_kind Three (size ∷ class ∷ base ∷ fields ++ rest) (length (size ∷ class ∷ base ∷ fields))
    (kind_of-three size a) (rw (a, a, b, c) refl) (omega arith) (omega arith) (omega (arith, length-append fields rest))
states_chunk Two (class ∷ base ∷ fields) rest (a, b, len) =
    states_by_kind Two (class ∷ base ∷ fields ++ rest) (length (class ∷ base ∷ fields))
    (kind_of-two class a) (rw (a, a, b) refl) (omega arith) (omega arith) (omega (arith, length-append fields rest))
states_chunk Free (free ∷ fields) rest (a, len) =
    states_by_kind Free (free ∷ fields ++ rest) (length (free ∷ fields))
    (kind_of-free free a) (rw (a, a) refl) (omega arith) (omega arith) (omega (arith, length-append fields rest))
states_chunk Short (base ∷ fields) rest (a, len) =
    states_by_kind Short (base ∷ fields ++ rest) (length (base ∷ fields))
    (kind_of-short base a) (rw (a, a) refl) (omega arith) (omega arith) (omega (arith, length-append fields rest))
states_chunk _ _ rest h = absurd h

-- nothing is wrong where words begin with a chunk
pub no_fault_at_chunk : (kind : Kind) (chunk rest : List ℕ) → IsChunkOf kind chunk → chunk_fault (chunk ++ rest) ≡ None
no_fault_at_chunk kind chunk rest h = no_fault_with_room (chunk ++ rest) (states_chunk kind chunk rest h).has_room

-- the same of a front that is a chunk
pub no_fault_at_prefix : (kind : Kind) (count : ℕ) (words : List ℕ)
    → IsChunkOf kind (take count words) → chunk_fault words ≡ None
no_fault_at_prefix kind count words h =
    rw take-append-drop at (no_fault_at_chunk kind (take count words) (drop count words) h)

-- words that begin with a chunk state its length
pub stated_length-append : (kind : Kind) (chunk rest : List ℕ)
    → IsChunkOf kind chunk → stated_length (chunk ++ rest) ≡ length chunk
stated_length-append kind chunk rest h = (states_chunk kind chunk rest h).states

-- the same of a front that is a chunk
pub stated_length_at_prefix : (kind : Kind) (count : ℕ) (words : List ℕ)
    → IsChunkOf kind (take count words) → stated_length words ≡ length (take count words)
stated_length_at_prefix kind count words h =
    subst (λ (w : List ℕ). stated_length w ≡ length (take count words)) (take-append-drop count words)
    (stated_length-append kind (take count words) (drop count words) h)

-- where something is wrong, no chunk begins
pub no_chunk_at_fault : (words : List ℕ) (fault : ChunkFault)
    → chunk_fault words ≡ Some fault → (count : ℕ) → IsChunk (take count words) → ⊥
no_chunk_at_fault words fault e count (kind, h) =
    some_is_none fault (sym e ∙ no_fault_at_prefix kind count words h)

-- the reason is enough for `HasNoChunk`
pub HasNoChunk-from_fault : (words : List ℕ) (fault : ChunkFault)
    → chunk_fault words ≡ Some fault → HasNoChunk words fault
HasNoChunk-from_fault words fault e = record { none = no_chunk_at_fault words fault e; reason = e }

-- two chunks at the front of some words are one
pub chunk_prefix_unique : (words : List ℕ) (m n : ℕ)
    → m ≤ length words → n ≤ length words → IsChunk (take m words) → IsChunk (take n words) → m ≡ n
chunk_prefix_unique words m n hm hn (j, a) (k, b) =
    sym (length-take-le m words hm)
    ∙ sym (stated_length_at_prefix j m words a)
    ∙ stated_length_at_prefix k n words b
    ∙ length-take-le n words hn

-- two chunks with which one list begins are one
pub chunk_front_unique : (chunk rest other more : List ℕ)
    → IsChunk chunk → IsChunk other → chunk ++ rest ≡ other ++ more → chunk ≡ other
chunk_front_unique chunk rest other more (j, a) (k, b) e =
    let same : length other ≡ length chunk =
    sym (stated_length-append k other more b)
    ∙ sym (ap stated_length e)
    ∙ stated_length-append j chunk rest a
    in
    sym (take_at chunk rest (length chunk) refl)
    ∙ ap (take (length chunk)) e
    ∙ take_at other more (length chunk) same

-- ---- the chunk that words with no fault begin with

-- a chunk of these parts
abbrev chunk_of : Kind → ℕ → ℕ → ℕ → Chunk
chunk_of k a m x = record { kind = k; before = a; length = m; base = x }

-- the first word's type is that of the kind
type_from_kind : (kind : Kind) (words : List ℕ)
    → chunk_kind words ≡ kind → header_type (slice_index words 0) ≡ type_of kind
type_from_kind kind words e = sym (type_of-kind_of (slice_index words 0)) ∙ ap type_of e

-- the front of that length, of each kind, where the header is there
chunk_from : (kind : Kind) (words : List ℕ)
    → header_type (slice_index words 0) ≡ type_of kind → words_before kind < length words → HasRoom words
    → IsChunkOf kind (take (stated_length words) words)
chunk_from Three (size ∷ class ∷ base ∷ rest) a lt h =
    let types : (eqb (class % 4) 0 && (eqb (base % 4) 0 && true)) ≡ true = rw (a, a) at h.one_type in
    let some : 0 < size / 4 = rw a at h.some_size in
    let room : 2 + size / 4 ≤ length (size ∷ class ∷ base ∷ rest) = rw a at h.room in
    let k : ℕ = size / 4 - 1 in
    let is : stated_length (size ∷ class ∷ base ∷ rest) ≡ suc (suc (suc k)) = rw a (omega arith) in
    let len : length (take k rest) ≡ k = length-take-le k rest (omega arith) in
    let tests = and_parts _ _ types in
    let last = and_parts _ _ tests.1 in
    rw is (a, eqb-true _ _ tests.0, eqb-true _ _ last.0, omega arith)
chunk_from Two (class ∷ base ∷ rest) a lt h =
    let types : (eqb (base % 4) 1 && true) ≡ true = rw (a, a) at h.one_type in
    let some : 0 < size_field base = rw a at h.some_size in
    let room : 1 + size_field base ≤ length (class ∷ base ∷ rest) = rw a at h.room in
    let k : ℕ = size_field base - 1 in
    let is : stated_length (class ∷ base ∷ rest) ≡ suc (suc k) = rw a (omega arith) in
    let len : length (take k rest) ≡ k = length-take-le k rest (omega arith) in
    let tests = and_parts _ _ types in
    rw is (a, eqb-true _ _ tests.0, omega arith)
chunk_from Free (free ∷ rest) a lt h =
    let some : 0 < free / 4 = rw a at h.some_size in
    let room : 0 + free / 4 ≤ length (free ∷ rest) = rw a at h.room in
    let k : ℕ = free / 4 - 1 in
    let is : stated_length (free ∷ rest) ≡ suc k = rw a (omega arith) in
    let len : length (take k rest) ≡ k = length-take-le k rest (omega arith) in
    rw is (a, omega arith)
chunk_from Short (base ∷ rest) a lt h =
    let some : 0 < size_field base = rw a at h.some_size in
    let room : 0 + size_field base ≤ length (base ∷ rest) = rw a at h.room in
    let k : ℕ = size_field base - 1 in
    let is : stated_length (base ∷ rest) ≡ suc k = rw a (omega arith) in
    let len : length (take k rest) ≡ k = length-take-le k rest (omega arith) in
    rw is (a, omega arith)
chunk_from _ _ a lt h = absurd (omega arith)

-- words with no fault begin with a chunk of their kind, of the stated length
pub is_chunk_with_no_fault : (words : List ℕ)
    → chunk_fault words ≡ None → IsChunkOf (chunk_kind words) (take (stated_length words) words)
is_chunk_with_no_fault words e =
    let h = HasRoom-from_no_fault words e in
    chunk_from (chunk_kind words) words (type_from_kind (chunk_kind words) words refl) h.header h

-- and they have those words
pub stated_length_within : (words : List ℕ) → chunk_fault words ≡ None → stated_length words ≤ length words
stated_length_within words e = (HasRoom-from_no_fault words e).room

-- so they begin with the chunk that their header states
pub BeginsWith-from_no_fault : (words : List ℕ) → chunk_fault words ≡ None
    → BeginsWith words (chunk_of (chunk_kind words) (before words) (stated_length words) (base_word words))
BeginsWith-from_no_fault words e =
    let h = HasRoom-from_no_fault words e in
    let lt : before words < stated_length words = let some = h.some_size in omega arith in
    record {
      inside = h.room;
      is_chunk = is_chunk_with_no_fault words e;
      before = refl;
      base = sym (base_word-take (stated_length words) words lt);
    }

-- ---- the header that words begin with

-- equal parts make one chunk
pub same_chunk : {k l : Kind} {a b m n x y : ℕ} → k ≡ l → a ≡ b → m ≡ n → x ≡ y
    → chunk_of k a m x ≡ chunk_of l b n y
same_chunk p q r s = cc

-- it describes the chunk that they begin with
pub BeginsWith-description : (words : List ℕ) (chunk : Chunk) (size : ℕ)
    → BeginsWith words chunk → size ≤ length words → IsChunk (take size words) → chunk ≡ description (take size words)
BeginsWith-description words chunk size begins le is_chunk =
    let same : chunk.length ≡ size =
    chunk_prefix_unique words chunk.length size begins.inside le (chunk.kind, begins.is_chunk) is_chunk in
    let kind : chunk_kind (take chunk.length words) ≡ chunk.kind =
    chunk_kind_is chunk.kind (take chunk.length words) begins.is_chunk in
    subst (λ (n : ℕ). chunk ≡ description (take n words)) same
    (same_chunk (sym kind) (begins.before ∙ ap words_before (sym kind))
    (sym (length-take-le chunk.length words begins.inside)) begins.base)

-- ---- what a header that is read word by word says

-- whether these words have the type of this one
abbrev pub have_type_of : ℕ → List ℕ → Bool
have_type_of first header = list_all (λ word. eqb (header_type word) (header_type first)) header

module _ (words : List ℕ) (kind : Kind) (count : ℕ)
    (kind_is : kind ≡ kind_of (slice_index words 0))
    (count_is : count ≡ words_before kind) where
  before_is : before words ≡ count
  before_is = sym (count_is ∙ ap words_before kind_is)

  pub HasNoChunk-short_header : length words < count + 1 → HasNoChunk words Overrun
  HasNoChunk-short_header short =
      HasNoChunk-from_fault words Overrun (fault_of_short_header words (omega (arith, before_is)))

  types_are : have_type_of (slice_index words 0) (take (count + 1) words) ≡ is_of_one_type words
  types_are = ap (λ (n : ℕ). have_type_of (slice_index words 0) (take (n + 1) words)) (sym before_is)

  pub HasNoChunk-mixed_header : count + 1 ≤ length words → have_type_of (slice_index words 0) (take (count + 1) words) ≡ false
      → HasNoChunk words HeaderMismatch
  HasNoChunk-mixed_header room mixed =
      HasNoChunk-from_fault words HeaderMismatch
      (fault_of_types words (omega (arith, before_is)) (sym types_are ∙ mixed))

  module _ (size : ℕ) (room : count + 1 ≤ length words)
      (one : have_type_of (slice_index words 0) (take (count + 1) words) ≡ true)
      (size_is : size ≡ size_stated kind (slice_index words 0) (slice_index words count)) where
    size_is_stated : stated_size (chunk_kind words) words ≡ size
    size_is_stated =
        ap (λ (i : ℕ). size_stated (chunk_kind words) (slice_index words 0) (slice_index words i)) before_is
        ∙ ap (λ (k : Kind). size_stated k (slice_index words 0) (slice_index words count)) (sym kind_is)
        ∙ sym size_is

    pub HasNoChunk-zero_size : size ≡ 0 → HasNoChunk words ZeroSize
    HasNoChunk-zero_size none =
        HasNoChunk-from_fault words ZeroSize
        (fault_of_zero_size words (omega (arith, before_is)) (sym types_are ∙ one) (size_is_stated ∙ none))

    pub HasNoChunk-overrun : 0 < size → length words < count + size → HasNoChunk words Overrun
    HasNoChunk-overrun some long =
        HasNoChunk-from_fault words Overrun
        (fault_of_overrun words (omega (arith, before_is)) (sym types_are ∙ one)
        (omega (arith, size_is_stated)) (omega (arith, before_is, size_is_stated)))

    pub BeginsWith-stated : 0 < size → count + size ≤ length words
        → BeginsWith words (chunk_of kind count (count + size) (slice_index words count))
    BeginsWith-stated some inside =
        let has_room : HasRoom words =
        record {
          header = omega (arith, before_is);
          one_type = sym types_are ∙ one;
          some_size = omega (arith, size_is_stated);
          room = omega (arith, before_is, size_is_stated);
        } in
        subst (BeginsWith words)
        (same_chunk (sym kind_is) before_is (omega (arith, before_is, size_is_stated))
        (ap (λ (i : ℕ). slice_index words i) before_is))
        (BeginsWith-from_no_fault words (no_fault_with_room words has_room))
