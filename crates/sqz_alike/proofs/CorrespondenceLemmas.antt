-- When a walk has ended, its pairs are a correspondence.
-- Serves `alikeness::compare` and `ConverseLemmas`.
use Rattle.std.proofs.Common.{◌≡◌, ℕ, Bool, true, if◌then◌else◌, List, [], ◌∷◌, length, Option, Some, None, refl, sym, ap, subst, ◌∙◌}
use Rattle.std.specs.Prelude.{Contains}
use Rattle.std.proofs.lemmas.List.{get_or_default}
use Rattle.std.proofs.lemmas.Option.{same_Some}
use Rattle.sqz_image.specs.declared.slot.Slot.{Slot}
use Rattle.sqz_image.specs.Objects.{chunk_words, find}
use Rattle.sqz_trace.specs.Edges.{nil, HasEdge, strong_target}
use Rattle.sqz_trace.specs.Graph.{Leads, is_marked}
use Rattle.sqz_trace.specs.Reachability.{graph_from, IsReachability}
use Rattle.sqz_trace.specs.Slots.{traced}
use Rattle.sqz_trace.specs.Strong.{strong}
use Rattle.sqz_trace.specs.Targets.{target}
use Rattle.sqz_trace.proofs.ReachabilityLemmas.{IsClosed-reachable}
use Rattle.sqz_trace.proofs.StrongLemmas.{strong-le}
use Rattle.sqz_trace.proofs.TargetLemmas.{named_among-more}
use Rattle.sqz_alike.specs.declared.matching.Pair.{Pair}
use Rattle.sqz_alike.specs.Alike.{SlotsMatch, ObjectsMatch, IsOneToOne, HasOld, HasNew, IsCorrespondence}
use Rattle.sqz_alike.specs.Seen.{Seen, seen_target, live_or_nil}
use Rattle.sqz_alike.proofs.MatchingLemmas.{pair_of}
use Rattle.sqz_alike.specs.Matching.{IsMatching, partner_in}
use Rattle.sqz_alike.specs.FirstDifference.{AreMatched}
use Rattle.sqz_alike.specs.Walk.{AreLive}

-- ---- every live object is in a pair

-- a live object to which a strong slot points is seen there
seen-strong : (seen : Seen) (object next : ℕ) (slot : Slot) → strong_target seen.memory seen.weak object slot ≡ Some next
    → is_marked seen.marks next ≡ true → seen_target seen object slot ≡ Some next
seen-strong seen object next slot points live =
    let chunk = chunk_words seen.memory object in
    let leads : target seen.memory object slot ≡ Some next =
    named_among-more seen.memory chunk (strong seen.memory seen.weak chunk) (traced chunk) slot next
    (strong-le seen.memory seen.weak chunk) points in
    ap (live_or_nil (nil seen.memory seen.weak) seen.marks) leads
    ∙ ap (λ (b : Bool). if b then Some next else nil seen.memory seen.weak) live

module _ (seen : Seen) (pairs : List Pair) (side : Pair → ℕ)
    (along : (pair : Pair) → Contains pairs pair → (slot : Slot) (next : ℕ) → seen_target seen (side pair) slot ≡ Some next
    → (other : Pair) × Contains pairs other × (side other ≡ next))
    (is : IsReachability seen.memory seen.weak seen.marks) where
  abbrev Has : ℕ → Type 0
  Has object = (pair : Pair) × Contains pairs pair × (side pair ≡ object)

  -- what an object of a pair points to is one
  has_next : (from next : ℕ) → Has from → HasEdge seen.memory seen.weak from next → is_marked seen.marks next ≡ true → Has next
  has_next from next has edge live =
      along has.0 has.1 edge.slot next
      (subst (λ (object : ℕ). seen_target seen object edge.slot ≡ Some next) (sym has.2)
      (seen-strong seen from next edge.slot edge.names live))

  has_goal : (from : ℕ) (path : List ℕ) (goal : ℕ) → Has from → is_marked seen.marks from ≡ true
      → Leads (graph_from is.start seen.memory seen.weak) from path goal → Has goal
  has_goal from [] goal has live leads = subst Has leads has
  has_goal from (next ∷ path) goal has live leads =
      let next_live : is_marked seen.marks next ≡ true =
      (IsClosed-reachable (graph_from is.start seen.memory seen.weak) seen.marks is.reached).along from next live leads.0 in
      has_goal next path goal (has_next from next has leads.0 next_live) next_live leads.1

  -- if the special objects array is in a pair, each live object is
  pub has_each : (root : ℕ) → find seen.memory seen.memory.special ≡ Some root → Has root → is_marked seen.marks root ≡ true
      → (object : ℕ) → is_marked seen.marks object ≡ true → Has object
  has_each root root_is has root_live object live =
      let same : root ≡ is.start = same_Some _ _ (sym root_is ∙ is.is_special) in
      let reached = is.reached.sound object live in
      has_goal is.start reached.path object (subst Has same has)
      (subst (λ (o : ℕ). is_marked seen.marks o ≡ true) same root_live) reached.leads

-- ---- the sides of a pair

module _ (word other : Option ℕ) (pairs : List Pair) where
  pub leads_old : (one two : Option ℕ) (next : ℕ) → one ≡ Some next → SlotsMatch pairs one two word other → HasOld pairs next
  leads_old (Some a) (Some b) next e m = (record { old = a; new = b }, m, same_Some _ _ e)
  leads_old (Some a) None next e m = absurd m
  leads_old None two next e m = absurd cc

  pub leads_new : (one two : Option ℕ) (next : ℕ) → two ≡ Some next → SlotsMatch pairs one two word other → HasNew pairs next
  leads_new (Some a) (Some b) next e m = (record { old = a; new = b }, m, same_Some _ _ e)
  leads_new None (Some b) next e m = absurd m
  leads_new one None next e m = absurd cc

same_pair : (one other : Pair) → one.old ≡ other.old → one.new ≡ other.new → one ≡ other
same_pair one other e f = ap (λ (old : ℕ). pair_of old one.new) e ∙ ap (pair_of other.old) f

module _ (old new : Seen) (pairs : List Pair) (new_of old_of : List (Option ℕ)) (matching : IsMatching pairs new_of old_of) where
  once : IsOneToOne pairs
  once =
      record {
        by_old = λ one other in_one in_other same.
            same_pair one other same
            (same_Some _ _
            (sym (matching.old_is one in_one)
            ∙ ap (λ (o : ℕ). partner_in new_of o) same
            ∙ matching.old_is other in_other));
        by_new = λ one other in_one in_other same.
            same_pair one other
            (same_Some _ _
            (sym (matching.new_is one in_one)
            ∙ ap (λ (o : ℕ). partner_in old_of o) same
            ∙ matching.new_is other in_other)) same;
      }

  -- the pairs of a walk that has ended
  pub corresponds : (roots : Pair) → find old.memory old.memory.special ≡ Some roots.old → find new.memory new.memory.special ≡ Some roots.new
      → Contains pairs roots → AreLive old new pairs → AreMatched old new pairs (length pairs)
      → IsReachability old.memory old.weak old.marks → IsReachability new.memory new.weak new.marks
      → IsCorrespondence old new pairs
  corresponds roots old_is new_is paired live matched old_reached new_reached =
      record {
        roots = record { roots = roots; old_is = old_is; new_is = new_is; paired = paired };
        once = once;
        all_old = λ object. (
          (λ marked.
              has_each old pairs (λ pair. pair.old)
              (λ pair in_pairs slot next points. leads_old _ _ pairs _ _ next points ((each pair in_pairs).slots slot))
              old_reached roots.old old_is (roots, paired, refl) (live roots paired).old_is object marked),
          (λ has. subst (λ (o : ℕ). is_marked old.marks o ≡ true) has.2 (live has.0 has.1).old_is),
        );
        all_new = λ object. (
          (λ marked.
              has_each new pairs (λ pair. pair.new)
              (λ pair in_pairs slot next points. leads_new _ _ pairs _ _ next points ((each pair in_pairs).slots slot))
              new_reached roots.new new_is (roots, paired, refl) (live roots paired).new_is object marked),
          (λ has. subst (λ (o : ℕ). is_marked new.marks o ≡ true) has.2 (live has.0 has.1).new_is),
        );
        each = each;
      } where
        each : (pair : Pair) → Contains pairs pair → ObjectsMatch old new pairs pair
        each pair in_pairs =
            subst (ObjectsMatch old new pairs)
            (get_or_default pairs in_pairs.0 (record { old = 0; new = 0 }) pair in_pairs.1 ∙ in_pairs.2)
            (matched in_pairs.0 in_pairs.1 in_pairs.1)
