-- Partitions of words into chunks: each list of words either has exactly one, or is stuck at one
-- index.
-- Serves `laws::partition` and `IndexLemmas` of `sqz_image`; `MovedLemmas` and `PieceLemmas` of
-- `sqz_slide`; `Uniqueness` of `sqz_tool`.
use Rattle.std.proofs.Common.{◌≡◌, ℕ, zero, suc, ◌+◌, ◌-◌, ◌<◌, ◌≤◌, ◌⊎◌, List, [], ◌∷◌, ◌++◌, length, take, drop}
use Rattle.std.proofs.Common.{Option, Some, None, refl, sym, ap, subst, ◌∙◌, arith, inl, inr}
use Rattle.std.specs.List.{concat, AllByRecursion}
use Rattle.std.proofs.lemmas.Bool.{cases_lt}
use Rattle.std.proofs.lemmas.Option.{same_Some}
use Rattle.std.proofs.lemmas.List.{length-append, length-take-le, length-drop, append_assoc, append-nil}
use Rattle.std.proofs.lemmas.List.{append_cancel_left, take-append-drop, take_at, take_all, drop-drop}
use Rattle.std.proofs.Math.Seq.{take-add}
use Rattle.sqz_object.specs.declared.chunk.ChunkFault.{ChunkFault}
use Rattle.sqz_object.specs.Chunk.{IsChunk, chunk_kind}
use Rattle.sqz_object.specs.Partition.{IsPartition, IsStuck, chunk_fault, stated_length}
use Rattle.sqz_object.proofs.ChunkLemmas.{length-chunk, chunk_front_unique, is_chunk_with_no_fault}
use Rattle.sqz_object.proofs.ChunkLemmas.{stated_length_within, no_chunk_at_fault}

-- ---- lists of chunks

pub All-push : {X : Type 0} (P : X → Type 0) (xs : List X) (x : X)
    → AllByRecursion P xs → P x → AllByRecursion P (xs ++ x ∷ [])
All-push P [] x h p = (p, tt)
All-push P (y ∷ xs) x h p = (h.0, All-push P xs x h.1 p)

pub concat-push : (xs : List (List ℕ)) (x : List ℕ) → concat (xs ++ x ∷ []) ≡ concat xs ++ x
concat-push [] x = append-nil x
concat-push (y ∷ xs) x = ap (λ (t : List ℕ). y ++ t) (concat-push xs x) ∙ sym (append_assoc y (concat xs) x)

-- the words up to a place are chunks, and one more follows
pub IsPartition-push : (words : List ℕ) (place count : ℕ) (chunks : List (List ℕ))
    → IsPartition (take place words) chunks → IsChunk (take count (drop place words))
    → IsPartition (take (place + count) words) (chunks ++ take count (drop place words) ∷ [])
IsPartition-push words place count chunks partition is_chunk =
    let chunk = take count (drop place words) in
    record {
      each = All-push IsChunk chunks chunk partition.each is_chunk;
      whole =
          concat-push chunks chunk
          ∙ ap (λ (t : List ℕ). t ++ chunk) partition.whole
          ∙ sym (take-add place count words);
    }

-- ---- two lists of chunks that begin with the same words

-- chunks that are some words, behind chunks that are the words before
record Tail (front chunks : List (List ℕ)) (rest : List ℕ) : Type 0 where
  tail : List (List ℕ)
  each : AllByRecursion IsChunk tail
  parts : chunks ≡ front ++ tail
  whole : concat tail ≡ rest

no_words : (f words rest : List ℕ) → IsChunk f → [] ≡ (f ++ words) ++ rest → ⊥
no_words f words rest is_chunk e =
    let some : 1 ≤ length f = length-chunk f is_chunk in
    let none : 0 ≡ length ((f ++ words) ++ rest) = ap length e in
    omega (arith, length-append (f ++ words) rest, length-append f words)

tail_after : (front chunks : List (List ℕ)) (rest : List ℕ)
    → AllByRecursion IsChunk front → AllByRecursion IsChunk chunks → concat chunks ≡ concat front ++ rest
    → Tail front chunks rest
tail_after [] chunks rest fronts each e = record { tail = chunks; each = each; parts = refl; whole = e }
tail_after (f ∷ front) [] rest fronts each e = absurd (no_words f (concat front) rest fronts.0 e)
tail_after (f ∷ front) (chunk ∷ chunks) rest fronts each e =
    let joined : chunk ++ concat chunks ≡ f ++ (concat front ++ rest) = e ∙ append_assoc f (concat front) rest in
    let same : chunk ≡ f = chunk_front_unique chunk (concat chunks) f (concat front ++ rest) each.0 fronts.0 joined in
    let others : concat chunks ≡ concat front ++ rest =
    append_cancel_left f (concat chunks) (concat front ++ rest)
    (ap (λ (t : List ℕ). t ++ concat chunks) (sym same) ∙ joined) in
    let after = tail_after front chunks rest fronts.1 each.1 others in
    record {
      tail = after.tail;
      each = after.each;
      parts = ap (λ (c : List ℕ). c ∷ chunks) same ∙ ap (λ (cs : List (List ℕ)). f ∷ cs) after.parts;
      whole = after.whole;
    }

no_chunks : (chunks : List (List ℕ)) → AllByRecursion IsChunk chunks → concat chunks ≡ [] → chunks ≡ []
no_chunks [] each e = refl
no_chunks (chunk ∷ chunks) each e =
    let some : 1 ≤ length chunk = length-chunk chunk each.0 in
    let none : length (chunk ++ concat chunks) ≡ 0 = ap length e in
    absurd (omega (arith, length-append chunk (concat chunks)))

-- two partitions of the same words are one
pub IsPartition-unique : (words : List ℕ) (one other : List (List ℕ))
    → IsPartition words one → IsPartition words other → one ≡ other
IsPartition-unique words one other p q =
    let after = tail_after one other [] p.each q.each (q.whole ∙ sym p.whole ∙ sym (append-nil (concat one))) in
    sym (append-nil one) ∙ ap (λ (cs : List (List ℕ)). one ++ cs) (sym (no_chunks after.tail after.each after.whole))
    ∙ sym after.parts

-- ---- words that are stuck

-- chunks that begin with these words, at least one of them
first_is_prefix : (chunks : List (List ℕ)) (words rest : List ℕ)
    → AllByRecursion IsChunk chunks → concat chunks ++ rest ≡ words → 0 < length (concat chunks)
    → (count : ℕ) × IsChunk (take count words)
first_is_prefix [] words rest each e some = absurd (omega arith)
first_is_prefix (chunk ∷ chunks) words rest each e some =
    let begins : chunk ++ (concat chunks ++ rest) ≡ words = sym (append_assoc chunk (concat chunks) rest) ∙ e in
    let front : take (length chunk) words ≡ chunk =
    ap (take (length chunk)) (sym begins) ∙ take_at chunk (concat chunks ++ rest) (length chunk) refl in
    (length chunk, subst IsChunk (sym front) each.0)

module _ (words : List ℕ) (place : ℕ) (fault : ChunkFault) where
  -- no chunks reach past the place where words are stuck
  no_chunks_past : (count : ℕ) (chunks : List (List ℕ))
      → IsStuck words place fault → place < count → count ≤ length words
      → IsPartition (take count words) chunks → ⊥
  no_chunks_past count chunks stuck past inside partition =
      let front = stuck.before_it in
      let behind : List ℕ = drop place words in
      let between : List ℕ = take (count - place) behind in
      let more : take count words ≡ take place words ++ between =
      ap (λ (n : ℕ). take n words) (omega arith) ∙ take-add place (count - place) words in
      let after = tail_after front.0 chunks between front.1.each partition.each
      (partition.whole ∙ more ∙ ap (λ (w : List ℕ). w ++ between) (sym front.1.whole)) in
      let size : length between ≡ count - place =
      length-take-le (count - place) behind (omega (arith, length-drop place words)) in
      let prefix = first_is_prefix after.tail behind (drop (count - place) behind) after.each
      (ap (λ (w : List ℕ). w ++ drop (count - place) behind) after.whole ∙ take-append-drop (count - place) behind)
      (omega (arith, ap length after.whole, size)) in
      stuck.none prefix.0 prefix.1

  -- words that are stuck have no partition
  pub IsStuck-no_partition : (chunks : List (List ℕ)) → IsPartition words chunks → IsStuck words place fault → ⊥
  IsStuck-no_partition chunks partition stuck =
      no_chunks_past (length words) chunks stuck stuck.inside (omega arith)
      (subst (λ (w : List ℕ). IsPartition w chunks) (sym (take_all (length words) words (omega arith))) partition)

-- the reason is that of the place
same_reason : (words : List ℕ) (p q : ℕ) (f g : ChunkFault) → p ≡ q → IsStuck words p f → IsStuck words q g → f ≡ g
same_reason words p q f g same one other =
    same_Some f g (sym one.reason ∙ ap (λ (n : ℕ). chunk_fault (drop n words)) same ∙ other.reason)

-- words are stuck at one place at most, for one reason
pub IsStuck-unique : (words : List ℕ) (p q : ℕ) (f g : ChunkFault)
    → IsStuck words p f → IsStuck words q g → (p ≡ q) × (f ≡ g)
IsStuck-unique words p q f g one other =
    let up = one.before_it in
    let down = other.before_it in
    let same : p ≡ q = elim (cases_lt p q) [
      | inl below ↦ absurd (no_chunks_past words p f q down.0 one below (let lt = other.inside in omega arith) down.1)
      | inr above ↦ elim (cases_lt q p) [
        | inl below ↦ absurd (no_chunks_past words q g p up.0 other below (let lt = one.inside in omega arith) up.1)
        | inr both ↦ omega arith
      ]
    ] in
    (same, same_reason words p q f g same one other)

-- ---- each list of words is one or the other

-- a partition of the words, or where they are stuck
abbrev pub PartitionOrStuck : List ℕ → Type 0
PartitionOrStuck words =
    ((chunks : List (List ℕ)) × IsPartition words chunks)
    ⊎ ((place : ℕ) × (fault : ChunkFault) × IsStuck words place fault)

stuck_at_front : (word : ℕ) (words : List ℕ) (fault : ChunkFault)
    → chunk_fault (word ∷ words) ≡ Some fault → PartitionOrStuck (word ∷ words)
stuck_at_front word words fault e =
    inr (
      0,
      fault,
      record {
        inside = omega arith;
        before_it = ([], record { each = tt; whole = refl });
        none = no_chunk_at_fault (word ∷ words) fault e;
        reason = e;
      },
    )

-- what is so of the words behind a chunk is so of all
behind_chunk : (words : List ℕ) (count : ℕ)
    → count ≤ length words → IsChunk (take count words) → PartitionOrStuck (drop count words) → PartitionOrStuck words
behind_chunk words count inside is_chunk (inl (chunks, partition)) =
    inl (
      take count words ∷ chunks,
      record {
        each = (is_chunk, partition.each);
        whole = ap (λ (w : List ℕ). take count words ++ w) partition.whole ∙ take-append-drop count words;
      },
    )
behind_chunk words count inside is_chunk (inr (place, fault, stuck)) =
    let behind : drop place (drop count words) ≡ drop (count + place) words = drop-drop place count words in
    inr (
      count + place,
      fault,
      record {
        inside = let lt = stuck.inside in omega (arith, length-drop count words);
        before_it = (
          take count words ∷ stuck.before_it.0,
          record {
            each = (is_chunk, stuck.before_it.1.each);
            whole =
                ap (λ (w : List ℕ). take count words ++ w) stuck.before_it.1.whole
                ∙ sym (take-add count place words);
          },
        );
        none = subst (λ (w : List ℕ). (n : ℕ) → IsChunk (take n w) → ⊥) behind stuck.none;
        reason = ap chunk_fault (sym behind) ∙ stuck.reason;
      },
    )

-- by what is wrong at the front, and what is so of shorter words
by_front : (times word : ℕ) (words : List ℕ) (found : Option ChunkFault) → chunk_fault (word ∷ words) ≡ found
    → length words ≤ times → ((rest : List ℕ) → length rest ≤ times → PartitionOrStuck rest)
    → PartitionOrStuck (word ∷ words)
by_front times word words (Some fault) e le shorter = stuck_at_front word words fault e
by_front times word words None e le shorter =
    let all : List ℕ = word ∷ words in
    let size : ℕ = stated_length all in
    let is_chunk : IsChunk (take size all) = (chunk_kind all, is_chunk_with_no_fault all e) in
    let inside : size ≤ length all = stated_length_within all e in
    let some : 1 ≤ length (take size all) = length-chunk (take size all) is_chunk in
    behind_chunk all size inside is_chunk
    (shorter (drop size all) (omega (arith, length-drop size all, length-take-le size all inside)))

partition_or_stuck_in : (times : ℕ) (words : List ℕ) → length words ≤ times → PartitionOrStuck words
partition_or_stuck_in times [] le = inl ([], record { each = tt; whole = refl })
partition_or_stuck_in zero (word ∷ words) le = absurd (omega arith)
partition_or_stuck_in (suc times) (word ∷ words) le =
    by_front times word words (chunk_fault (word ∷ words)) refl (omega arith) (partition_or_stuck_in times)

pub partition_or_stuck : (words : List ℕ) → PartitionOrStuck words
partition_or_stuck words = partition_or_stuck_in (length words) words (omega arith)
