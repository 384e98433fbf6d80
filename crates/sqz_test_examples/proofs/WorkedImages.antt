-- Worked images by computation: what a file holds, and what its compaction is.
-- Serves the worked images of `compacted`, `defects`, `prefixes`, `unreadable` and `weak_slots`,
-- and `moved_objects::dead_cycle`.
use Rattle.std.proofs.Common.{◌≡◌, ℕ, ◌+◌, Bool, true, false, ◌&&◌, eqb, List, [], ◌∷◌, ◌++◌, length, take, drop, Option, Some}
use Rattle.std.proofs.Common.{None, refl, sym, ap, subst, ◌∙◌, arith, inl, inr}
use Rattle.std.specs.Option.{is_some, is_none}
use Rattle.std.specs.List.{list_all, concat, AllByRecursion}
use Rattle.std.proofs.lemmas.Bool.{and_parts, eqb-true}
use Rattle.std.proofs.lemmas.List.{take_all, take_at, drop_at, length-append}
use Rattle.sqz_object.specs.declared.order.Order.{Order}
use Rattle.sqz_object.specs.declared.chunk.ChunkFault.{ChunkFault}
use Rattle.sqz_object.specs.Chunk.{IsChunk, chunk_kind}
use Rattle.sqz_object.specs.Partition.{IsStuck, stated_length, chunk_fault}
use Rattle.sqz_object.proofs.ChunkLemmas.{is_chunk_with_no_fault, no_chunk_at_fault}
use Rattle.sqz_image.specs.declared.fault.Fault.{Fault}
use Rattle.sqz_image.specs.declared.fault.Fault.TheVariants.{BadSpecialObjects, NoNil}
use Rattle.sqz_image.specs.File.{order_of, prefix_of, image_bytes, header_of, base_address, special_address}
use Rattle.sqz_image.specs.File.{data_of}
use Rattle.sqz_image.specs.Objects.{SavedImage, find, file_bytes}
use Rattle.sqz_image.specs.Refusals.{file_fault, HasChunks, Holds, refusal_of}
use Rattle.sqz_trace.specs.declared.weak.Weak.{Weak}
use Rattle.sqz_trace.specs.Reachability.{IsReachability}
use Rattle.sqz_trace.specs.Defects.{first_defect, lacks_nil}
use Rattle.sqz_tool.specs.Verdict.{IsRefused}
use Rattle.sqz_tool.specs.Compacted.{compacted}
use Rattle.sqz_test_examples.specs.Worked.{chunks_among, CompactsTo}
use Rattle.sqz_test_examples.proofs.TracingTest.{marks_of, is_tracing, is_tracing-true, is_tracing-special}

-- ---- chunks

-- whether the words are a chunk: nothing is wrong with them, and they state their length
abbrev pub is_chunk : List ℕ → Bool
is_chunk words = is_none (chunk_fault words) && eqb (stated_length words) (length words)

-- what is none
none_of : {X : Type 0} (o : Option X) → is_none o ≡ true → o ≡ None
none_of None h = refl
none_of (Some x) h = absurd cc

-- then they are one
is_chunk-true : (words : List ℕ) → is_chunk words ≡ true → IsChunk words
is_chunk-true words h =
    let parts = and_parts (is_none (chunk_fault words)) (eqb (stated_length words) (length words)) h in
    let whole : take (stated_length words) words ≡ words =
    rw (eqb-true _ _ parts.1) (take_all (length words) words (omega arith)) in
    subst IsChunk whole (chunk_kind words, is_chunk_with_no_fault words (none_of (chunk_fault words) parts.0))

-- the same of each of a list
all_chunks-true : (chunks : List (List ℕ)) → list_all is_chunk chunks ≡ true → AllByRecursion IsChunk chunks
all_chunks-true [] h = tt
all_chunks-true (chunk ∷ chunks) h =
    let parts = and_parts (is_chunk chunk) (list_all is_chunk chunks) h in
    (is_chunk-true chunk parts.0, all_chunks-true chunks parts.1)

-- ---- files

-- what is computed of a file: the first refusal by its header, its byte order, and its data words
pub record Findings : Type 0 where
  pub fault : Option Fault
  pub found_order : Option Order
  pub words : List ℕ

-- of a file that is read in this order
abbrev pub findings_in : Order → List ℕ → Findings
findings_in order file =
    let bytes : List ℕ = image_bytes file in
    record { fault = file_fault file; found_order = order_of bytes; words = data_of order bytes }

-- its header is sound, and these are its order and its data words
abbrev pub IsReadAs : List ℕ → Order → List ℕ → Type 0
IsReadAs file order words =
    findings_in order file ≡ record { fault = None; found_order = Some order; words = words }

-- ---- files whose words are chunks

module _ (file : List ℕ) (order : Order) where
  -- the chunks of its data, at most 99
  abbrev pub chunks : List (List ℕ)
  chunks = chunks_among 99 (data_of order (image_bytes file))

  -- the image in the file
  abbrev pub image_in : SavedImage
  image_in =
      let header = header_of order (image_bytes file) in
      let base : ℕ = base_address header in
      let special : ℕ = special_address header in
      record {
        prefix = prefix_of file;
        header = header;
        memory = record { order = order; base = base; special = special; chunks = chunks };
      }

  -- the file has these chunks
  pub HasChunks-computed : IsReadAs file order (concat chunks) → list_all is_chunk chunks ≡ true
      → HasChunks file image_in
  HasChunks-computed read each = record {
    sound = ap (λ (f : Findings). f.fault) read;
    prefix = refl;
    order = ap (λ (f : Findings). f.found_order) read;
    header = refl;
    base = refl;
    special = refl;
    chunks = record { each = all_chunks-true chunks each; whole = sym (ap (λ (f : Findings). f.words) read) };
  }

  -- where there is no object at the special address, the file is refused
  pub IsRefused-with_no_special : (weak : Weak) → IsReadAs file order (concat chunks) → list_all is_chunk chunks ≡ true
      → find image_in.memory image_in.memory.special ≡ None → IsRefused weak file BadSpecialObjects
  IsRefused-with_no_special weak read each missing =
      inl (inr (inr record {
        image = image_in;
        parts = HasChunks-computed read each;
        missing = missing;
        refused = refl;
      }))

  -- where there is no nil for weak slots, it is refused for that
  pub IsRefused-without_nil : (weak : Weak) → IsReadAs file order (concat chunks) → list_all is_chunk chunks ≡ true
      → is_some (find image_in.memory image_in.memory.special) ≡ true → lacks_nil image_in.memory weak ≡ true
      → IsRefused weak file NoNil
  IsRefused-without_nil weak read each special lacks =
      inr (inl record {
        image = image_in;
        holds = record { parts = HasChunks-computed read each; special = special };
        lacks = lacks;
        refused = refl;
      })

-- the file holds that image, and its reachable objects are those that have a path here
record IsTraced (weak : Weak) (file : List ℕ) (order : Order) (paths : List (Option (List ℕ))) : Type 0 where
  holds : Holds file (image_in file order)
  reachable : IsReachability (image_in file order).memory weak (marks_of paths)

-- by what computes
IsTraced-computed : (weak : Weak) (file : List ℕ) (order : Order) (paths : List (Option (List ℕ)))
    → IsReadAs file order (concat (chunks file order)) → list_all is_chunk (chunks file order) ≡ true
    → is_tracing (image_in file order).memory weak paths ≡ true → IsTraced weak file order paths
IsTraced-computed weak file order paths read each tracing =
    let memory = (image_in file order).memory in
    let special = is_tracing-special memory weak paths tracing in
    record {
      holds = record { parts = HasChunks-computed file order read each; special = special };
      reachable = is_tracing-true memory weak paths tracing;
    }

-- where no reachable object has a defect, the file is compacted
pub CompactsTo-computed : (weak : Weak) (file : List ℕ) (order : Order) (answer : List ℕ)
    (paths : List (Option (List ℕ)))
    → IsReadAs file order (concat (chunks file order)) → list_all is_chunk (chunks file order) ≡ true
    → lacks_nil (image_in file order).memory weak ≡ false
    → is_tracing (image_in file order).memory weak paths ≡ true
    → first_defect (image_in file order).memory weak (marks_of paths) ≡ None
    → file_bytes (compacted (image_in file order) weak (marks_of paths)) ≡ answer → CompactsTo weak file answer
CompactsTo-computed weak file order answer paths read each has_nil tracing sound bytes =
    let traced = IsTraced-computed weak file order paths read each tracing in
    record {
      image = image_in file order;
      marks = marks_of paths;
      accepted = record { holds = traced.holds; has_nil = has_nil; reachable = traced.reachable; sound = sound };
      bytes = bytes;
    }

-- where one has, the file is refused for the first
pub IsRefused-for_defect : (weak : Weak) (file : List ℕ) (order : Order) (fault : Fault)
    (paths : List (Option (List ℕ)))
    → IsReadAs file order (concat (chunks file order)) → list_all is_chunk (chunks file order) ≡ true
    → lacks_nil (image_in file order).memory weak ≡ false
    → is_tracing (image_in file order).memory weak paths ≡ true
    → first_defect (image_in file order).memory weak (marks_of paths) ≡ Some fault → IsRefused weak file fault
IsRefused-for_defect weak file order fault paths read each has_nil tracing defect =
    let traced = IsTraced-computed weak file order paths read each tracing in
    inr (inr record {
      image = image_in file order;
      marks = marks_of paths;
      holds = traced.holds;
      has_nil = has_nil;
      reachable = traced.reachable;
      defect = defect;
    })

-- ---- files whose words are not

-- behind some chunks, words are stuck with which no chunk begins
IsStuck-at_fault : (chunks : List (List ℕ)) (word : ℕ) (rest : List ℕ) (reason : ChunkFault)
    → list_all is_chunk chunks ≡ true → chunk_fault (word ∷ rest) ≡ Some reason
    → IsStuck (concat chunks ++ word ∷ rest) (length (concat chunks)) reason
IsStuck-at_fault chunks word rest reason each fault =
    let words : List ℕ = concat chunks ++ word ∷ rest in
    let place : ℕ = length (concat chunks) in
    let more : length words ≡ place + length (word ∷ rest) = length-append (concat chunks) (word ∷ rest) in
    let before : take place words ≡ concat chunks = take_at (concat chunks) (word ∷ rest) place refl in
    let behind : drop place words ≡ word ∷ rest = drop_at (concat chunks) (word ∷ rest) place refl in
    let reasons : chunk_fault (drop place words) ≡ Some reason = ap chunk_fault behind ∙ fault in
    record {
      inside = omega arith;
      before_it = (chunks, record { each = all_chunks-true chunks each; whole = sym before });
      none = no_chunk_at_fault (drop place words) reason reasons;
      reason = reasons;
    }

-- such a file is refused at the first of those words
pub IsRefused-at_chunk : (weak : Weak) (file : List ℕ) (order : Order) (chunks : List (List ℕ)) (word : ℕ) (rest : List ℕ)
    (reason : ChunkFault) → IsReadAs file order (concat chunks ++ word ∷ rest) → list_all is_chunk chunks ≡ true
    → chunk_fault (word ∷ rest) ≡ Some reason → IsRefused weak file (refusal_of reason (length (concat chunks)))
IsRefused-at_chunk weak file order chunks word rest reason read each fault =
    let place : ℕ = length (concat chunks) in
    let words_are = sym (ap (λ (f : Findings). f.words) read) in
    let stuck = IsStuck-at_fault chunks word rest reason each fault in
    inl (inr (inl record {
      sound = ap (λ (f : Findings). f.fault) read;
      order = order;
      in_order = ap (λ (f : Findings). f.found_order) read;
      unreadable = record {
        word = place;
        reason = reason;
        stuck = subst (λ (words : List ℕ). IsStuck words place reason) words_are stuck;
        refused = refl;
      };
    }))

-- ---- the paths of images that are worked twice

-- of the stack of a context two objects are reachable
abbrev pub paths_by_stack : List (Option (List ℕ))
paths_by_stack =
    (Some (0 ∷ [])) ∷ None ∷ (Some (4 ∷ 2 ∷ [])) ∷ (Some (4 ∷ 3 ∷ [])) ∷ (Some (4 ∷ [])) ∷ (Some []) ∷ []

-- the paths to the objects of a weak object whose slot alone points to an object
abbrev pub paths_by_strong_slots : List (Option (List ℕ))
paths_by_strong_slots = (Some (0 ∷ [])) ∷ (Some (3 ∷ 1 ∷ [])) ∷ None ∷ (Some (3 ∷ [])) ∷ (Some []) ∷ []
