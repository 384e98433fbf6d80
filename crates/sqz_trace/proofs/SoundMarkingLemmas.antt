-- Marking that sees whether the objects that it reaches are sound.
-- Serves `marking::mark_targets` and `marking::mark_without`; `TogetherLemmas` of `sqz_answers`.
use Rattle.std.proofs.Common.{◌≡◌, ℕ, ◌⊎◌, Bool, true, false, not, ◌&&◌, cond, List, [], ◌∷◌, ◌++◌, length}
use Rattle.std.proofs.Common.{Some, None, refl, sym, ap, subst, ◌∙◌, arith, inl, inr}
use Rattle.std.specs.Prelude.{Contains, slice_index}
use Rattle.std.specs.Bool.{OnTrue}
use Rattle.std.proofs.lemmas.Bool.{cases_lt, le-ltb}
use Rattle.std.proofs.lemmas.List.Elements.{All-contains, All-push, Contains-push_cases}
use Rattle.sqz_object.specs.Chunk.{fields}
use Rattle.sqz_image.specs.declared.slot.Slot.{Slot}
use Rattle.sqz_image.specs.declared.slot.Slot.TheVariants.{ClassWord, Field}
use Rattle.sqz_image.specs.Objects.{Memory, object_at, object_count, chunk_words}
use Rattle.sqz_trace.specs.declared.weak.Weak.{Weak}
use Rattle.sqz_trace.specs.declared.weak.Weak.TheVariants.{Keep}
use Rattle.sqz_trace.specs.Defects.{lacks_class, is_bad_method, is_bad_context, is_bad_word, defect}
use Rattle.sqz_trace.specs.Edges.{OutEdges, out_edges, strong_slots}
use Rattle.sqz_trace.specs.Faults.{first_fault}
use Rattle.sqz_trace.specs.Graph.{is_marked}
use Rattle.sqz_trace.specs.Marking.{MarksTargets}
use Rattle.sqz_trace.specs.Slots.{traced, slot_word}
use Rattle.sqz_trace.specs.Soundness.{IsGood, is_good_slot, is_well_formed}
use Rattle.sqz_trace.proofs.SoundLemmas.{defect-none, first_defect-marked}
use Rattle.sqz_trace.proofs.TargetLemmas.{strong_slots-field}

-- ---- tests

-- what follows if a test is true
pub OnTrue-from : (P : Type 0) (test : Bool) → OnTrue test P → test ≡ true → P
OnTrue-from P true holds is = holds
OnTrue-from P false holds is = absurd cc

pub OnTrue-to : (P : Type 0) (test : Bool) → (test ≡ true → P) → OnTrue test P
OnTrue-to P true holds = holds refl
OnTrue-to P false holds = tt

-- two tests are true if both are
pub both_true : (one other : Bool) → (one && other) ≡ true → (one ≡ true) × (other ≡ true)
both_true true other both = (refl, both)
both_true false other both = absurd cc

not_true : (test : Bool) → not test ≡ true → test ≡ false
not_true true is = absurd cc
not_true false is = refl

-- ---- one object

module _ (edges : OutEdges) where
  -- a well-formed object without slots is good
  pub IsGood-start : (test : Bool) → test ≡ is_well_formed edges.words → OnTrue test (IsGood edges [])
  IsGood-start test its =
      OnTrue-to (IsGood edges []) test
      (λ is. record { formed = sym its ∙ is; each = λ k d lt. absurd (omega (arith, lt)) })

  -- and with one more slot it is if that is good
  pub IsGood-next : (slots : List Slot) (slot : Slot) (so_far next : Bool)
      → OnTrue so_far (IsGood edges slots) → next ≡ is_good_slot edges slot
      → OnTrue (so_far && next) (IsGood edges (slots ++ slot ∷ []))
  IsGood-next slots slot so_far next good its =
      OnTrue-to (IsGood edges (slots ++ slot ∷ [])) (so_far && next)
      (λ is.
      let both = both_true so_far next is in
      let before = OnTrue-from (IsGood edges slots) so_far good both.0 in
      record {
        formed = before.formed;
        each = All-push (λ slot. is_good_slot edges slot ≡ true) slots slot before.each (sym its ∙ both.1);
      })

-- an object whose strong slots are all its slots has no defect if it is good
pub defect-good : (memory : Memory) (index : ℕ) (edges : OutEdges) → edges ≡ out_edges memory Keep index
    → IsGood edges (strong_slots edges) → defect memory Keep (object_at memory index) ≡ None
defect-good memory index edges its good =
    defect-none memory Keep (object_at memory index)
    (record {
      has_class = not_true (lacks_class chunk) others.0;
      as_method = not_true (is_bad_method chunk) others.1;
      as_context = not_true (is_bad_context chunk) parts.1;
      as_weak = refl;
      slot = good_at;
    })
  where
    chunk : List ℕ
    chunk = chunk_words memory index

    own : IsGood (out_edges memory Keep index) (strong_slots (out_edges memory Keep index))
    own = subst (λ edges. IsGood edges (strong_slots edges)) its good

    parts : ((not (lacks_class chunk) && not (is_bad_method chunk)) ≡ true) × (not (is_bad_context chunk) ≡ true)
    parts = both_true _ (not (is_bad_context chunk)) own.formed

    others : (not (lacks_class chunk) ≡ true) × (not (is_bad_method chunk) ≡ true)
    others = both_true (not (lacks_class chunk)) _ parts.0

    good_slot : (slot : Slot) → Contains (strong_slots (out_edges memory Keep index)) slot
        → is_bad_word memory (slot_word chunk slot) ≡ false
    good_slot slot there =
        not_true (is_bad_word memory (slot_word chunk slot))
        (All-contains (λ slot. is_good_slot (out_edges memory Keep index) slot ≡ true)
        (strong_slots (out_edges memory Keep index)) slot own.each there)

    good_at : (slot : Slot) → is_bad_word memory (slot_word chunk slot) ≡ false
    good_at ClassWord = good_slot ClassWord (0, omega arith, refl)
    good_at (Field field) =
        elim (cases_lt field (traced chunk)) [
          | inl lt ↦ good_slot (Field field) (strong_slots-field (out_edges memory Keep index) field lt)
          | inr ge ↦
              ap (λ test. is_bad_word memory (cond test (Some (slice_index (fields chunk) field)) None))
              (le-ltb field (traced chunk) ge)
        ]

-- ---- all objects

-- if the test is true, weak slots are kept, and each marked object that is not on the worklist has
-- no defect
pub record IsSeen (memory : Memory) (weak : Weak) (marks : List Bool) (worklist : List ℕ) (is_sound : Bool) : Type 0 where
  pub keeps : is_sound ≡ true → weak ≡ Keep
  pub sound : is_sound ≡ true → (index : ℕ) → is_marked marks index ≡ true
      → Contains worklist index ⊎ (defect memory Keep (object_at memory index) ≡ None)

module _ (memory : Memory) (weak : Weak) where
  -- at first all marked objects are on the worklist
  pub IsSeen-start : (marks : List Bool) (worklist : List ℕ) (is_sound : Bool) → (is_sound ≡ true → weak ≡ Keep)
      → ((index : ℕ) → is_marked marks index ≡ true → Contains worklist index)
      → IsSeen memory weak marks worklist is_sound
  IsSeen-start marks worklist is_sound keeps there =
      record {
        keeps = keeps;
        sound = λ is index marked. inl (there index marked);
      }

  -- then an object is taken from the worklist, its targets are marked, and it is looked at
  pub IsSeen-step : (IsTarget : ℕ → Type 0) (object : ℕ) (marks new : List Bool) (rest longer : List ℕ) (is_sound is_good : Bool)
      → IsSeen memory weak marks (rest ++ object ∷ []) is_sound
      → MarksTargets IsTarget marks rest new longer
      → (weak ≡ Keep → is_good ≡ true → defect memory Keep (object_at memory object) ≡ None)
      → IsSeen memory weak new longer (is_sound && is_good)
  IsSeen-step IsTarget object marks new rest longer is_sound is_good seen step good =
      record {
        keeps = λ is. seen.keeps (both_true is_sound is_good is).0;
        sound = λ is index marked. elim (step.only index marked) [
          | inl before ↦ elim (seen.sound (both_true is_sound is_good is).0 index before) [
            | inl queued ↦ elim (Contains-push_cases rest object index queued) [
              | inl there ↦ inl (step.queued index there)
              | inr same ↦ inr (subst (λ (i : ℕ). defect memory Keep (object_at memory i) ≡ None) same
                  (good (seen.keeps (both_true is_sound is_good is).0) (both_true is_sound is_good is).1))
            ]
            | inr none ↦ inr none
          ]
          | inr (target, there) ↦ inl there
        ];
      }

  -- at the end the worklist is empty, and the image has no fault
  pub first_fault-seen : (marks : List Bool) (is_sound : Bool) → length marks ≡ object_count memory
      → IsSeen memory weak marks [] is_sound → OnTrue is_sound (first_fault memory weak marks ≡ None)
  first_fault-seen marks is_sound sized seen =
      OnTrue-to (first_fault memory weak marks ≡ None) is_sound
      (λ is.
      rw (seen.keeps is)
      (first_defect-marked memory Keep marks sized
      (λ index marked. elim (seen.sound is index marked) [
        | inl none ↦ absurd (omega (arith, none.1))
        | inr none ↦ none
      ])))
