-- The walk through two images.
-- Serves `objects::slot_matches`, `::slots_match`, `::objects_match` and `alikeness::compare`;
-- `ConverseLemmas`.
use Rattle.std.proofs.Common.{◌≡◌, ℕ, ◌+◌, ◌<◌, ◌≤◌, Bool, true, false, List, [], ◌∷◌, length, Some, None}
use Rattle.std.proofs.Common.{Result, Ok, Err, IfOk, OnOk, refl, sym, ap, subst, ◌∙◌, arith, inl, inr}
use Rattle.std.specs.Prelude.{Contains}
use Rattle.std.proofs.lemmas.List.Elements.{Contains-append_cases}
use Rattle.sqz_image.specs.Objects.{object_count}
use Rattle.sqz_trace.specs.declared.live_objects.Live.{Live}
use Rattle.sqz_alike.specs.declared.matching.Matching.{Matching}
use Rattle.sqz_alike.specs.declared.matching.Pair.{Pair}
use Rattle.std.proofs.lemmas.Bool.{cases_lt, le-ltb}
use Rattle.std.proofs.lemmas.List.{get_or_append_left, get_or_default, length-append}
use Rattle.std.proofs.lemmas.Option.{same_Some}
use Rattle.sqz_image.specs.declared.slot.Slot.{Slot}
use Rattle.sqz_image.specs.declared.slot.Slot.TheVariants.{ClassWord, Field}
use Rattle.sqz_image.specs.Objects.{chunk_words, find}
use Rattle.sqz_trace.specs.Slots.{traced, slot_word}
use Rattle.sqz_alike.specs.Alike.{SlotMatches, ObjectsMatch, IsCorrespondence, WordsMatch}
use Rattle.sqz_alike.specs.FirstDifference.{AreAmong, AreFirstToDiffer, AreMatched, Never, any_kind}
use Rattle.sqz_alike.specs.Seen.{Seen, seen, seen_target}
use Rattle.sqz_alike.specs.Matching.{IsMatching, Joins, with_pair}
use Rattle.sqz_alike.specs.Partners.{common_slots, offer_slots, pair_at}
use Rattle.sqz_alike.specs.Walk.{IsLive, IsWalk, IsWalked, FirstSlotsMatch, Finds}
use Rattle.sqz_alike.proofs.MatchingLemmas.{pair_of}
use Rattle.sqz_alike.proofs.PartnerLemmas.{follow-more}
use Rattle.sqz_trace.proofs.MarkedLemmas.{is_marked-inside}
use Rattle.sqz_alike.proofs.SeenLemmas.{special_is_live}
use Rattle.sqz_alike.proofs.StepLemmas.{SlotsMatch-more, SlotsMatch-none, AreAmong-finds, Finds-then}

module _ (old new : Live) where
  -- the objects of a pair are objects
  pub old_inside : (matching : Matching) → IsWalk old new matching → (pair : Pair) → Contains matching.pairs.items pair
      → pair.old < object_count old.graph.heap.now
  old_inside matching walk pair paired =
      omega (arith, is_marked-inside old.marks pair.old (walk.live pair paired).old_is, old.one_each)

  pub new_inside : (matching : Matching) → IsWalk old new matching → (pair : Pair) → Contains matching.pairs.items pair
      → pair.new < object_count new.graph.heap.now
  new_inside matching walk pair paired =
      omega (arith, is_marked-inside new.marks pair.new (walk.live pair paired).new_is, new.one_each)

  -- a pair of live objects more
  pub IsWalk-join : (before after : Matching) (pair : Pair) → IsWalk old new before → IsLive (seen old) (seen new) pair
      → {E : Type 0} (result : Result Bool E) → IfOk result (Joins pair before.pairs.items after.pairs.items)
      → OnOk result (IsMatching after.pairs.items after.new_of.items after.old_of.items)
      → OnOk result (length after.new_of.items ≡ length before.new_of.items)
      → OnOk result (length after.old_of.items ≡ length before.old_of.items)
      → OnOk result (IsWalk old new after)
  IsWalk-join before after pair walk live (Ok joined) joins matching old_sized new_sized =
      record {
        matched = matching;
        old_sized = old_sized ∙ walk.old_sized;
        new_sized = new_sized ∙ walk.new_sized;
        live = λ other in_after.
            elim (Contains-append_cases before.pairs.items joins.added other (subst (λ (xs : List Pair). Contains xs other) joins.more in_after)) [
              | inl early ↦ walk.live other early
              | inr late ↦ subst (IsLive (seen old) (seen new)) (sym (joins.only other late)) live
            ];
      }
  IsWalk-join before after pair walk live (Err error) joins matching old_sized new_sized = tt

-- there is no proof of what is never so
pub none_prop : (one other : ⊥) → one ≡ other
none_prop one other = absurd one

-- ---- the slots of a pair

module _ (old new : Seen) where
  pub SlotMatches-more : (pairs more : List Pair) → AreAmong pairs more → (pair : Pair) (slot : Slot)
      → SlotMatches old new pairs pair slot → SlotMatches old new more pair slot
  SlotMatches-more pairs more among pair slot matches =
      SlotsMatch-more (slot_word (chunk_words old.memory pair.old) slot) (slot_word (chunk_words new.memory pair.new) slot)
      pairs more among (seen_target old pair.old slot) (seen_target new pair.new slot) matches

  pub ObjectsMatch-more : (pairs more : List Pair) → AreAmong pairs more → (pair : Pair)
      → ObjectsMatch old new pairs pair → ObjectsMatch old new more pair
  ObjectsMatch-more pairs more among pair match =
      record { words = match.words; slots = λ slot. SlotMatches-more pairs more among pair slot (match.slots slot) }

  -- after the traced fields there are no slots
  no_target : (seen : Seen) (object index : ℕ) → traced (chunk_words seen.memory object) ≤ index
      → seen_target seen object (Field index) ≡ None
  no_target seen object index past =
      let none = le-ltb index (traced (chunk_words seen.memory object)) past in
      rw none refl

  no_word : (chunk : List ℕ) (index : ℕ) → traced chunk ≤ index → slot_word chunk (Field index) ≡ None
  no_word chunk index past =
      let none = le-ltb index (traced chunk) past in
      rw none refl

  -- the class word and the traced fields are all slots
  pub all_slots : (pairs : List Pair) (pair : Pair) (count : ℕ) → count ≡ traced (chunk_words old.memory pair.old)
      → traced (chunk_words old.memory pair.old) ≡ traced (chunk_words new.memory pair.new)
      → FirstSlotsMatch old new pair count pairs → (slot : Slot) → SlotMatches old new pairs pair slot
  all_slots pairs pair count count_is same match ClassWord = match.class
  all_slots pairs pair count count_is same match (Field index) =
      elim (cases_lt index count) [
        | inl early ↦ match.fields index early
        | inr late ↦
            SlotsMatch-none (slot_word (chunk_words old.memory pair.old) (Field index)) (slot_word (chunk_words new.memory pair.new) (Field index))
            pairs (seen_target old pair.old (Field index)) (seen_target new pair.new (Field index))
            (no_target old pair.old index (omega arith)) (no_target new pair.new index (omega arith))
            (no_word (chunk_words old.memory pair.old) index (omega arith)
            ∙ sym (no_word (chunk_words new.memory pair.new) index (omega arith)))
      ]

  -- the class word alone
  pub first_slot : (pair : Pair) {before after : List Pair} {found : Bool}
      → Finds (λ pairs. SlotMatches old new pairs pair ClassWord) before after found
      → Finds (FirstSlotsMatch old new pair 0) before after found
  first_slot pair finds =
      record {
        added = finds.added;
        more = finds.more;
        forced = λ all among match. finds.forced all among match.class;
        holds = λ e. record { class = finds.holds e; fields = λ index lt. absurd (omega (arith, lt)) };
        never = λ e all once among match. finds.never e all once among match.class;
      }

  -- fewer fields match too
  pub FirstSlotsMatch-fewer : (pair : Pair) (count fewer : ℕ) → fewer ≤ count → (pairs : List Pair)
      → FirstSlotsMatch old new pair count pairs → FirstSlotsMatch old new pair fewer pairs
  FirstSlotsMatch-fewer pair count fewer le pairs match =
      record { class = match.class; fields = λ index lt. match.fields index (omega (arith, le, lt)) }

  -- one more field, or one that does not match
  pub one_slot_more : (pair : Pair) (index count : ℕ) → index < count → {start before after : List Pair} {found : Bool}
      → Finds (FirstSlotsMatch old new pair index) start before true
      → Finds (λ pairs. SlotMatches old new pairs pair (Field index)) before after found
      → (found ≡ true → count ≡ index + 1) → Finds (FirstSlotsMatch old new pair count) start after found
  one_slot_more pair index count lt {before = before} {after = after} so_far finds last =
      Finds-then so_far finds (λ all match. FirstSlotsMatch-fewer pair count index (omega (arith, lt)) all match)
      (λ all match. match.fields index lt)
      (λ e now.
      let earlier = so_far.holds refl in
      record {
        class = SlotMatches-more before after (AreAmong-finds finds) pair ClassWord earlier.class;
        fields = λ k in_count.
            elim (cases_lt k index) [
              | inl early ↦ SlotMatches-more before after (AreAmong-finds finds) pair (Field k) (earlier.fields k early)
              | inr late ↦
                  let same : index ≡ k = omega (arith, last e, in_count) in
                  subst (λ (n : ℕ). SlotMatches old new after pair (Field n)) same now
            ];
      })

  -- the words, and all slots
  pub objects_find : (pair : Pair) (count : ℕ) → count ≡ traced (chunk_words old.memory pair.old)
      → WordsMatch old.memory.order new.memory.order (chunk_words old.memory pair.old) (chunk_words new.memory pair.new)
      → {before after : List Pair} {found : Bool} → Finds (FirstSlotsMatch old new pair count) before after found
      → Finds (λ pairs. ObjectsMatch old new pairs pair) before after found
  objects_find pair count count_is words {after = after} finds =
      record {
        added = finds.added;
        more = finds.more;
        forced = λ all among match. finds.forced all among (first_slots all match);
        holds = λ e. record { words = words; slots = all_slots after pair count count_is words.traced (finds.holds e) };
        never = λ e all once among match. finds.never e all once among (first_slots all match);
      }
    where
      first_slots : (all : List Pair) → ObjectsMatch old new all pair → FirstSlotsMatch old new pair count all
      first_slots all match = record { class = match.slots ClassWord; fields = λ index lt. match.slots (Field index) }

-- ---- the walk

-- the special objects arrays are a pair of each correspondence
roots_in : (old new : Seen) (a b : ℕ) → find old.memory old.memory.special ≡ Some a → find new.memory new.memory.special ≡ Some b
    → (all : List Pair) → IsCorrespondence old new all → Contains all (pair_of a b)
roots_in old new a b old_is new_is all is =
    let roots = is.roots in
    let one : roots.roots.old ≡ a = same_Some _ _ (sym roots.old_is ∙ old_is) in
    let other : roots.roots.new ≡ b = same_Some _ _ (sym roots.new_is ∙ new_is) in
    subst (Contains all) (ap (λ (n : ℕ). pair_of n roots.roots.new) one ∙ ap (pair_of a) other) roots.paired

joined_first : (pair : Pair) (pairs : List Pair) (joined : Bool) → Joins pair [] pairs joined → Contains pairs pair
joined_first pair pairs true joins = joins.paired refl
joined_first pair pairs false joins = absurd (omega (arith, ((joins.clashes refl).paired).1))

module _ (old new : Live) where
  pub IsWalked-start : (matching : Matching) (a b : ℕ) (joined : Bool) → find old.graph.heap.now old.graph.heap.now.special ≡ Some a
      → find new.graph.heap.now new.graph.heap.now.special ≡ Some b → Joins (pair_of a b) [] matching.pairs.items joined
      → matching.pairs.items ≡ with_pair [] (pair_of a b)
      → IsMatching matching.pairs.items matching.new_of.items matching.old_of.items
      → length matching.new_of.items ≡ object_count old.graph.heap.now
      → length matching.old_of.items ≡ object_count new.graph.heap.now → IsWalked old new 0 matching
  IsWalked-start matching a b joined old_is new_is joins found matched old_sized new_sized =
      let first : (other : Pair) → Contains matching.pairs.items other → other ≡ pair_of a b =
      λ other in_pairs. joins.only other (subst (λ (xs : List Pair). Contains xs other) joins.more in_pairs) in
      let live : IsLive (seen old) (seen new) (pair_of a b) =
      record {
        old_is = special_is_live old.graph.heap.now old.graph.weak old.marks old.reachable a old_is;
        new_is = special_is_live new.graph.heap.now new.graph.weak new.marks new.reachable b new_is;
      } in
      record {
        walk = record {
          matched = matched;
          old_sized = old_sized;
          new_sized = new_sized;
          live = λ other in_pairs. subst (IsLive (seen old) (seen new)) (sym (first other in_pairs)) live;
        };
        roots = record {
          roots = pair_of a b;
          old_is = old_is;
          new_is = new_is;
          paired = joined_first (pair_of a b) matching.pairs.items joined joins;
        };
        found = found;
        within = omega arith;
        matched = λ index early lt. absurd (omega (arith, early));
        forced = λ all is other in_pairs.
            subst (Contains all)
            (sym (first other in_pairs))
            (roots_in (seen old) (seen new) a b old_is new_is all is);
      }

  -- the objects of one more pair match
  pub IsWalked-more : (before after : Matching) (bound : ℕ) (pair : Pair) {found : Bool} → IsWalked old new bound before
      → bound < length before.pairs.items → pair ≡ pair_at before.pairs.items bound → IsWalk old new after
      → Finds (λ pairs. ObjectsMatch (seen old) (seen new) pairs pair) before.pairs.items after.pairs.items found → found ≡ true
      → after.pairs.items ≡ offer_slots (any_kind (seen old) (seen new)) before.pairs.items pair (common_slots (any_kind (seen old) (seen new)) pair)
      → IsWalked old new (bound + 1) after
  IsWalked-more before after bound pair walked inside is_pair walk finds is offered =
      let among = AreAmong-finds finds in
      record {
        walk = walk;
        roots = record {
          roots = walked.roots.roots;
          old_is = walked.roots.old_is;
          new_is = walked.roots.new_is;
          paired = among walked.roots.roots walked.roots.paired;
        };
        found = follow-more (any_kind (seen old) (seen new)) (walked.roots.roots ∷ []) before.pairs.items after.pairs.items bound pair
            walked.found is_pair offered;
        within = omega (arith, ap length finds.more, length-append before.pairs.items finds.added);
        matched = λ index early lt.
            let below : index < length before.pairs.items = omega arith in
            let same : pair_at after.pairs.items index ≡ pair_at before.pairs.items index =
            ap (λ (xs : List Pair). pair_at xs index) finds.more
            ∙ get_or_append_left before.pairs.items finds.added (pair_of 0 0) index below in
            subst (ObjectsMatch (seen old) (seen new) after.pairs.items) (sym same)
            (elim (cases_lt index bound) [
              | inl lower ↦
                  ObjectsMatch-more (seen old) (seen new) before.pairs.items after.pairs.items among (pair_at before.pairs.items index)
                  (walked.matched index lower below)
              | inr upper ↦
                  let here : bound ≡ index = omega arith in
                  subst (λ (n : ℕ). ObjectsMatch (seen old) (seen new) after.pairs.items (pair_at before.pairs.items n)) here
                  (subst (ObjectsMatch (seen old) (seen new) after.pairs.items) is_pair (finds.holds is))
            ]);
        forced = λ all is.
            let earlier = walked.forced all is in
            let paired : Contains before.pairs.items pair =
            (bound, inside, get_or_default before.pairs.items bound pair (pair_of 0 0) inside ∙ sym is_pair) in
            finds.forced all earlier (is.each pair (earlier pair paired));
      }

  -- the first pair of which the objects do not match
  pub first_to_differ : (before : Matching) (after : List Pair) (bound : ℕ) (pair : Pair) → IsWalked old new bound before
      → bound < length before.pairs.items → pair ≡ pair_at before.pairs.items bound
      → Finds (λ pairs. ObjectsMatch (seen old) (seen new) pairs pair) before.pairs.items after false
      → AreFirstToDiffer (seen old) (seen new) pair
  first_to_differ before after bound pair walked inside is_pair finds =
      record {
        roots = walked.roots.roots;
        are_roots = record { old_is = walked.roots.old_is; new_is = walked.roots.new_is };
        place = bound;
        inside = subst (λ (xs : List Pair). bound < length xs) walked.found inside;
        at = subst (λ (xs : List Pair). pair_at xs bound ≡ pair) walked.found (sym is_pair);
        matched = subst (λ (xs : List Pair). AreMatched (seen old) (seen new) xs bound) walked.found walked.matched;
        differ = subst (Never (λ pairs. ObjectsMatch (seen old) (seen new) pairs pair)) walked.found (finds.never refl);
      }
