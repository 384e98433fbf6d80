-- Shades that change while an object is scanned.
-- Serves `finishing::blacken`, `finishing::grey_target`, `greying::grey_white_target`,
-- `turns::blacken_listed` and `TurnLemmas`.
use Rattle.std.proofs.Common.{◌≡◌, ◌⊎◌, ℕ, ◌<◌, true, List, [], ◌∷◌, ◌++◌, length, set, min, Some}
use Rattle.std.proofs.Common.{refl, sym, ap, subst, ◌∙◌, arith, inl, inr}
use Rattle.std.proofs.lemmas.Bool.{cases_order, cases_lt}
use Rattle.std.proofs.lemmas.List.{length-set, get_or-set_same, get_or-set_other}
use Rattle.sqz_image.specs.declared.slot.Slot.{Slot}
use Rattle.sqz_image.specs.Objects.{Memory, object_count}
use Rattle.sqz_trace.specs.declared.shades.Shade.{Shade}
use Rattle.sqz_trace.specs.declared.shades.Shade.TheVariants.{White, Grey, Black}
use Rattle.sqz_trace.specs.declared.weak.Weak.{Weak}
use Rattle.sqz_trace.specs.Edges.{OutEdges, out_edges, strong_slots, edge_target, IsTargetAmong, HasEdge}
use Rattle.sqz_trace.specs.Graph.{is_marked}
use Rattle.sqz_trace.specs.Shades.{shade_at, marks_of}
use Rattle.sqz_trace.specs.Greying.{Greys, Blackens, BecameGrey, IsLowest}
use Rattle.sqz_trace.proofs.ShadeLemmas.{white-grey, marked-by, marked-same}
use Rattle.sqz_trace.proofs.TargetLemmas.{IsTargetAmong-next, IsTargetAmong-before, IsTargetAmong-last}
use Rattle.sqz_trace.proofs.TargetLemmas.{IsTargetAmong-edge, HasEdge-among}

-- ---- targets that become grey

module _ (IsTarget : ℕ → Type 0) where
  -- what was marked stays so
  pub Greys-keeps : (old new : List Shade) → Greys IsTarget old new → (index : ℕ) → is_marked (marks_of old) index ≡ true
      → is_marked (marks_of new) index ≡ true
  Greys-keeps old new greys index marked =
      elim (greys.only index) [
        | inl same ↦ marked-same old new index same marked
        | inr (is, white, grey) ↦ marked-by new index Grey grey refl
      ]

  -- none does where all are marked
  pub Greys-none : (shades : List Shade) → ((index : ℕ) → IsTarget index → is_marked (marks_of shades) index ≡ true)
      → Greys IsTarget shades shades
  Greys-none shades have = record { sized = refl; targets = have; only = λ index. inl refl }

  -- the one target becomes grey where it is white
  pub Greys-one : (shades : List Shade) (found : ℕ) → found < length shades → shade_at shades found ≡ White → IsTarget found
      → ((index : ℕ) → IsTarget index → found ≡ index) → Greys IsTarget shades (set shades found Grey)
  Greys-one shades found inside white is one =
      record {
        sized = length-set shades found Grey;
        targets = λ index target.
            marked-by (set shades found Grey) index Grey
            (subst (λ (i : ℕ). shade_at (set shades found Grey) i ≡ Grey) (one index target)
            (get_or-set_same shades found Grey White inside)) refl;
        only = λ index. elim (cases_order index found) [
          | inl same ↦
              (let at = get_or-set_same shades found Grey White inside in
              inr (subst IsTarget (sym same) is, ap (shade_at shades) same ∙ white, ap (shade_at (set shades found Grey)) same ∙ at))
          | inr (inl lt) ↦ inl (get_or-set_other shades found index Grey White (λ e. absurd (omega arith)))
          | inr (inr gt) ↦ inl (get_or-set_other shades found index Grey White (λ e. absurd (omega arith)))
        ];
      }

module _ (IsFirst IsSecond IsTarget : ℕ → Type 0)
    (either : (index : ℕ) → IsTarget index → IsFirst index ⊎ IsSecond index)
    (from_first : (index : ℕ) → IsFirst index → IsTarget index)
    (from_second : (index : ℕ) → IsSecond index → IsTarget index) where
  -- some targets become grey, and then the others
  pub Greys-then : (old shades new : List Shade) → Greys IsFirst old shades → Greys IsSecond shades new → Greys IsTarget old new
  Greys-then old shades new first second =
      record {
        sized = second.sized ∙ first.sized;
        targets = λ index target. elim (either index target) [
          | inl one ↦ Greys-keeps IsSecond shades new second index (first.targets index one)
          | inr other ↦ second.targets index other
        ];
        only = λ index. elim (second.only index) [
          | inl same ↦ elim (first.only index) [
            | inl before ↦ inl (same ∙ before)
            | inr (one, white, grey) ↦ inr (from_first index one, white, same ∙ grey)
          ]
          | inr (other, white, grey) ↦ elim (first.only index) [
            | inl before ↦ inr (from_second index other, sym before ∙ white, grey)
            | inr (one, was_white, was_grey) ↦ absurd (white-grey (sym white ∙ was_grey))
          ]
        ];
      }

-- an object whose targets became grey becomes black
pub Blackens-after : (IsTarget IsEdge : ℕ → Type 0) (object : ℕ) (old shades : List Shade) → object < length shades
    → ((index : ℕ) → IsEdge index → IsTarget index) → ((index : ℕ) → IsTarget index → IsEdge index)
    → Greys IsTarget old shades → Blackens IsEdge object old (set shades object Black)
Blackens-after IsTarget IsEdge object old shades inside to_target to_edge greys =
    record {
      sized = length-set shades object Black ∙ greys.sized;
      black = get_or-set_same shades object Black White inside;
      targets = λ index edge. elim (cases_order index object) [
        | inl same ↦
            marked-by new index Black (ap (shade_at new) same ∙ get_or-set_same shades object Black White inside) refl
        | inr (inl lt) ↦ kept index (λ e. absurd (omega arith)) (greys.targets index (to_target index edge))
        | inr (inr gt) ↦ kept index (λ e. absurd (omega arith)) (greys.targets index (to_target index edge))
      ];
      only = λ index. elim (cases_order index object) [
        | inl same ↦ inl same
        | inr (inl lt) ↦ inr (other index (λ e. absurd (omega arith)))
        | inr (inr gt) ↦ inr (other index (λ e. absurd (omega arith)))
      ];
    } where
      new : List Shade
      new = set shades object Black

      same_as : (index : ℕ) → (index ≡ object → ⊥) → shade_at (set shades object Black) index ≡ shade_at shades index
      same_as index differs = get_or-set_other shades object index Black White differs

      kept : (index : ℕ) → (index ≡ object → ⊥) → is_marked (marks_of shades) index ≡ true
          → is_marked (marks_of (set shades object Black)) index ≡ true
      kept index differs marked = marked-same shades (set shades object Black) index (same_as index differs) marked

      other : (index : ℕ) → (index ≡ object → ⊥)
          → (shade_at (set shades object Black) index ≡ shade_at old index)
          ⊎ (IsEdge index × (shade_at old index ≡ White) × (shade_at (set shades object Black) index ≡ Grey))
      other index differs =
          elim (greys.only index) [
            | inl same ↦ inl (same_as index differs ∙ same)
            | inr (is, white, grey) ↦ inr (to_edge index is, white, same_as index differs ∙ grey)
          ]

-- what is white was white before some became grey
pub Greys-was_white : (IsTarget : ℕ → Type 0) (old new : List Shade) → Greys IsTarget old new
    → (index : ℕ) → shade_at new index ≡ White → shade_at old index ≡ White
Greys-was_white IsTarget old new greys index is =
    elim (greys.only index) [
      | inl same ↦ sym same ∙ is
      | inr (target, was, grey) ↦ was
    ]

-- what is grey stays so where some become grey
pub Greys-stays_grey : (IsTarget : ℕ → Type 0) (old new : List Shade) → Greys IsTarget old new
    → (index : ℕ) → shade_at old index ≡ Grey → shade_at new index ≡ Grey
Greys-stays_grey IsTarget old new greys index is =
    elim (greys.only index) [
      | inl same ↦ same ∙ is
      | inr (target, was, grey) ↦ grey
    ]

-- what was white has the same shade after a grey object became black
pub white_stays : (old shades : List Shade) (object : ℕ) → shade_at old object ≡ Grey → (index : ℕ) → shade_at old index ≡ White
    → shade_at (set shades object Black) index ≡ shade_at shades index
white_stays old shades object grey index was =
    get_or-set_other shades object index Black White (λ e. white-grey (sym was ∙ ap (shade_at old) e ∙ grey))

-- ---- the lowest that becomes grey

-- where no shade changes it is the number itself
pub IsLowest-none : (shades : List Shade) (next : ℕ) → IsLowest next shades shades next
IsLowest-none shades next =
    record {
      no_higher = omega arith;
      found = inl refl;
      none_below = λ index lt became. white-grey (sym became.0 ∙ became.1);
    }

-- where one becomes grey, it is this one or the number, whichever is lower
pub IsLowest-one : (shades : List Shade) (found next : ℕ) → found < length shades → shade_at shades found ≡ White
    → IsLowest next shades (set shades found Grey) (min next found)
IsLowest-one shades found next inside is =
    record {
      no_higher = omega arith;
      found = elim (cases_lt found next) [
        | inl lt ↦
            (let least : found ≡ min next found = omega arith in
            inr (subst (BecameGrey shades (set shades found Grey)) least (is, get_or-set_same shades found Grey White inside)))
        | inr ge ↦ inl (omega arith)
      ];
      none_below = λ index lt became.
          white-grey
          (sym became.0 ∙ sym (get_or-set_other shades found index Grey White (λ e. absurd (omega (arith, e)))) ∙ became.1);
    }

module _ (next : ℕ) (old shades : List Shade) (low : ℕ) (lowest : IsLowest next old shades low) where
  -- some became grey, and then others
  pub IsLowest-then : (IsTarget IsOther : ℕ → Type 0) (new : List Shade) (lower : ℕ) → Greys IsTarget old shades
      → Greys IsOther shades new → IsLowest low shades new lower → IsLowest next old new lower
  IsLowest-then IsTarget IsOther new lower first second later =
      record {
        no_higher = omega (arith, lowest.no_higher, later.no_higher);
        found = elim later.found [
          | inl same ↦ elim lowest.found [
            | inl is ↦ inl (same ∙ is)
            | inr (white, grey) ↦
                inr (subst (BecameGrey old new) (sym same) (white, Greys-stays_grey IsOther shades new second low grey))
          ]
          | inr (white, grey) ↦ inr (Greys-was_white IsTarget old shades first lower white, grey)
        ];
        none_below = λ index lt became. elim (second.only index) [
          | inl same ↦ lowest.none_below index (omega (arith, lt, later.no_higher)) (became.0, sym same ∙ became.1)
          | inr (target, white, grey) ↦ later.none_below index lt (white, grey)
        ];
      }

  -- and then a grey object became black
  pub IsLowest-blackened : (object : ℕ) → shade_at old object ≡ Grey → IsLowest next old (set shades object Black) low
  IsLowest-blackened object is =
      record {
        no_higher = lowest.no_higher;
        found = elim lowest.found [
          | inl same ↦ inl same
          | inr (white, grey) ↦ inr (white, white_stays old shades object is low white ∙ grey)
        ];
        none_below = λ index lt became.
            lowest.none_below index lt (became.0, sym (white_stays old shades object is index became.0) ∙ became.1);
      }

-- ---- the slots of an object, one after the other

module _ (edges : OutEdges) where
  -- the targets of the slots before became grey, and then that of the next slot
  pub Greys-next_slot : (slots : List Slot) (slot : Slot) (old shades new : List Shade)
      → Greys (IsTargetAmong edges slots) old shades → Greys (λ index. edge_target edges slot ≡ Some index) shades new
      → Greys (IsTargetAmong edges (slots ++ slot ∷ [])) old new
  Greys-next_slot slots slot old shades new first second =
      Greys-then (IsTargetAmong edges slots) (λ index. edge_target edges slot ≡ Some index)
      (IsTargetAmong edges (slots ++ slot ∷ [])) (IsTargetAmong-next edges slots slot) (IsTargetAmong-before edges slots slot)
      (IsTargetAmong-last edges slots slot) old shades new first second

  -- the targets of all strong slots became grey, and then the object black
  pub Blackens-after_slots : (object : ℕ) (slots : List Slot) → slots ≡ strong_slots edges → (old shades : List Shade)
      → object < length old → Greys (IsTargetAmong edges slots) old shades
      → Blackens (IsTargetAmong edges (strong_slots edges)) object old (set shades object Black)
  Blackens-after_slots object slots all old shades inside greys =
      Blackens-after (IsTargetAmong edges slots) (IsTargetAmong edges (strong_slots edges)) object old shades
      (omega (arith, greys.sized, inside)) (λ index. subst (λ (it : List Slot). IsTargetAmong edges it index) (sym all))
      (λ index. subst (λ (it : List Slot). IsTargetAmong edges it index) all) greys

  -- these targets are what the object has edges to
  pub Blackens-edges : (memory : Memory) (weak : Weak) (object : ℕ) → edges ≡ out_edges memory weak object
      → object < object_count memory → (old new : List Shade)
      → Blackens (IsTargetAmong edges (strong_slots edges)) object old new → Blackens (HasEdge memory weak object) object old new
  Blackens-edges memory weak object its inside old new step =
      record {
        sized = step.sized;
        black = step.black;
        targets = λ index edge. step.targets index (IsTargetAmong-edge memory weak object edges its (strong_slots edges) refl index edge);
        only = λ index. elim (step.only index) [
          | inl same ↦ inl same
          | inr (inl same) ↦ inr (inl same)
          | inr (inr (target, white, grey)) ↦
              inr (inr (HasEdge-among memory weak object edges its (strong_slots edges) index inside target, white, grey))
        ];
      }
