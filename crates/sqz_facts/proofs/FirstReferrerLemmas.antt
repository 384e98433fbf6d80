-- The first two references to each object of a table.
-- Serves the functions of `first_referrers`.
use Rattle.std.proofs.Common.{◌≡◌, ◌≢◌, ◌⊎◌, ℕ, ◌+◌, ◌<◌, ◌≤◌, Bool, true, false, List, [], ◌∷◌, ◌++◌, length, map, All, set, get_or}
use Rattle.std.proofs.Common.{Option, Some, None, refl, sym, ap, ◌∙◌, nat_eq, arith, inl, inr}
use Rattle.std.specs.Prelude.{slice_index}
use Rattle.std.specs.List.{flat_map, range_with_len}
use Rattle.std.specs.Option.{option_eq}
use Rattle.std.proofs.lemmas.Bool.{cases_eq, cases_lt, eq-eqb, ne_eqb}
use Rattle.std.proofs.lemmas.Option.{same_Some, none-some}
use Rattle.std.proofs.lemmas.List.{get_or-set_same, get_or-set_other, length-set, append_assoc, append-nil}
use Rattle.std.proofs.lemmas.List.Elements.{All-map}
use Rattle.sqz_image.specs.declared.slot.Slot.{Slot}
use Rattle.sqz_image.specs.Objects.{Memory, object_count}
use Rattle.sqz_trace.specs.declared.weak.Weak.{Weak}
use Rattle.sqz_trace.specs.Edges.{OutEdges, out_edges, edge_target, strong_slots}
use Rattle.sqz_trace.specs.Graph.{is_marked}
use Rattle.sqz_object.proofs.WordLemmas.{map-same}
use Rattle.sqz_facts.specs.declared.referrers.Referrer.{Referrer}
use Rattle.sqz_facts.specs.Referrers.{points_to, referrers_among, referrers_from, referrers}
use Rattle.sqz_facts.proofs.RangeLemmas.{flat_map-next}
use Rattle.sqz_facts.proofs.ReferrerLemmas.{referrers_among-no, referrers_among-yes, referrers_from-marked, referrers_from-unmarked}
use Rattle.sqz_facts.proofs.ReferrerLemmas.{referrers-inside, referrers-outside}
use Rattle.sqz_facts.specs.declared.first_referrers.FirstReferrers.{FirstReferrers}
use Rattle.sqz_facts.specs.FirstReferrers.{AreFirstTwo, AreInside, AreRows, first_at, first_two, row_of}

-- ---- rows

module _ (count taken : ℕ) (objects : List ℕ) (rows : List (Option ℕ)) (are : AreRows count taken objects rows) where
  abbrev object : ℕ
  object = slice_index objects taken

  module _ (inside : object < count) where
    abbrev more : List (Option ℕ)
    more = set rows object (Some taken)

    same : row_of more object ≡ Some taken
    same = let all = are.all in get_or-set_same rows object (Some taken) None (omega arith)

    -- a row of the longer table is the new one or one of the table
    row_cases : (other row : ℕ) → row_of more other ≡ Some row
        → ((other ≡ object) × (taken ≡ row)) ⊎ (row_of rows other ≡ Some row)
    row_cases other row is =
        elim (cases_eq other object) [
          | inl eq ↦ inl (eq, same_Some _ _ (sym same ∙ ap (row_of more) (sym eq) ∙ is))
          | inr apart ↦ inr (sym (get_or-set_other rows object other (Some taken) None apart) ∙ is)
        ]

    pub AreRows-set : AreRows count (taken + 1) objects more
    AreRows-set =
        record {
          all = length-set rows object (Some taken) ∙ are.all;
          inside = λ other row is.
              elim (row_cases other row is) [
                | inl new ↦ let last = new.1 in omega (arith, last)
                | inr old ↦ let low = are.inside other row old in omega (arith, low)
              ];
          own = λ other row is.
              elim (row_cases other row is) [
                | inl new ↦ ap (slice_index objects) (sym new.1) ∙ sym new.0
                | inr old ↦ are.own other row old
              ];
          each = λ row low within none.
              elim (cases_eq (slice_index objects row) object) [
                | inl eq ↦ none-some taken (sym none ∙ ap (row_of more) eq ∙ same)
                | inr apart ↦
                    elim (cases_eq row taken) [
                      | inl last ↦ apart (ap (slice_index objects) last)
                      | inr early ↦
                          are.each row (omega (arith, early)) within
                          (sym (get_or-set_other rows object (slice_index objects row) (Some taken) None apart) ∙ none)
                    ]
              ];
        }

  pub AreRows-skip : (object < count → ⊥) → AreRows count (taken + 1) objects rows
  AreRows-skip outside =
      record {
        all = are.all;
        inside = λ other row is. let low = are.inside other row is in omega (arith, low);
        own = are.own;
        each = λ row low within.
            elim (cases_eq row taken) [
              | inl last ↦ absurd (outside (rw (sym last) within))
              | inr early ↦ are.each row (omega (arith, early)) within
            ];
      }

-- ---- references

pub AreFirstTwo-same : (rows : List (Option ℕ)) (one other : ℕ → List Referrer) (firsts : List FirstReferrers)
    → ((object : ℕ) → one object ≡ other object) → AreFirstTwo rows one firsts → AreFirstTwo rows other firsts
AreFirstTwo-same rows one other firsts same are = record {
  first = λ object row is. are.first object row is ∙ ap first_two (same object);
}

module _ (edges : OutEdges) (from : ℕ) (rows : List (Option ℕ)) (before : ℕ → List Referrer) (slots : List Slot)
    (firsts : List FirstReferrers) where
  abbrev pub Holds : List Slot → List FirstReferrers → Type 0
  Holds taken = AreFirstTwo rows (λ object. before object ++ referrers_among edges from object taken)

  module _ (slot : Slot) (are : Holds slots firsts) where
    abbrev reference : Referrer
    reference = record { object = from; slot = slot }

    stays : (object : ℕ) → points_to edges object slot ≡ false
        → before object ++ referrers_among edges from object slots
        ≡ before object ++ referrers_among edges from object (slots ++ slot ∷ [])
    stays object other = ap (λ more. before object ++ more) (sym (referrers_among-no edges from object slots slot other))

    module _ (to : ℕ) (target : edge_target edges slot ≡ Some to) where
      points_to-other : (object : ℕ) → to ≢ object → points_to edges object slot ≡ false
      points_to-other object apart =
          ap (λ found. option_eq nat_eq found (Some object)) target ∙ ne_eqb to object apart

      module _ (row : ℕ) (at : row_of rows to ≡ Some row) (room : row < length firsts)
          (own : (one other place : ℕ) → row_of rows one ≡ Some place → row_of rows other ≡ Some place → one ≡ other) where
        here : (before to ++ referrers_among edges from to slots) ++ reference ∷ []
            ≡ before to ++ referrers_among edges from to (slots ++ slot ∷ [])
        here =
            append_assoc (before to) (referrers_among edges from to slots) (reference ∷ [])
            ∙ ap (λ more. before to ++ more)
            (sym
            (referrers_among-yes edges from to slots slot
            (ap (λ found. option_eq nat_eq found (Some to)) target ∙ eq-eqb to to refl)))

        -- a slot that points to an object with a row
        pub Holds-row : (longer : FirstReferrers)
            → ((references : List Referrer) → first_at firsts (Some row) ≡ first_two references
            → longer ≡ first_two (references ++ reference ∷ []))
            → Holds (slots ++ slot ∷ []) (set firsts row longer)
        Holds-row longer one_more = record {
          first = λ object other is.
              elim (cases_eq other row) [
                | inl same ↦
                    let it : to ≡ object = own to object row at (is ∙ ap Some same) in
                    rw same
                    (get_or-set_same firsts row longer (first_two []) room
                    ∙ one_more (before to ++ referrers_among edges from to slots) (are.first to row at)
                    ∙ ap first_two here
                    ∙ ap (λ o. first_two (before o ++ referrers_among edges from o (slots ++ slot ∷ []))) it)
                | inr apart ↦
                    get_or-set_other firsts row other longer (first_two []) apart
                    ∙ are.first object other is
                    ∙ ap first_two
                    (stays object
                    (points_to-other object (λ same. apart (same_Some _ _ (sym is ∙ ap (row_of rows) (sym same) ∙ at)))))
              ];
        }

-- ---- all references

module _ (memory : Memory) (weak : Weak) (marks : List Bool) where
  abbrev pub references_below : ℕ → ℕ → List Referrer
  references_below from object = flat_map (referrers_from memory weak marks object) (range_with_len 0 from)

  pub references_below-marked : (from : ℕ) → is_marked marks from ≡ true → (object : ℕ)
      → references_below from object
      ++ referrers_among (out_edges memory weak from) from object (strong_slots (out_edges memory weak from))
      ≡ references_below (from + 1) object
  references_below-marked from marked object =
      ap (λ more. references_below from object ++ more) (sym (referrers_from-marked memory weak marks object from marked))
      ∙ sym (flat_map-next (referrers_from memory weak marks object) from)

  pub references_below-unmarked : (from : ℕ) → is_marked marks from ≡ false → (object : ℕ)
      → references_below from object ≡ references_below (from + 1) object
  references_below-unmarked from unmarked object =
      sym (append-nil (references_below from object))
      ∙ ap (λ more. references_below from object ++ more)
      (sym (referrers_from-unmarked memory weak marks object from unmarked))
      ∙ sym (flat_map-next (referrers_from memory weak marks object) from)

  module _ (rows : List (Option ℕ)) (firsts : List FirstReferrers) (are : AreFirstTwo rows (referrers memory weak marks) firsts) where
    -- the first two references to an object are those of its row, or none if it has no row
    first_is : (object : ℕ) → (object < object_count memory → row_of rows object ≢ None) → (row : Option ℕ)
        → row_of rows object ≡ row → first_at firsts (row_of rows object) ≡ first_two (referrers memory weak marks object)
    first_is object listed (Some row) is = ap (first_at firsts) is ∙ are.first object row is
    first_is object listed None is =
        let outside : object_count memory ≤ object =
        elim (cases_lt object (object_count memory)) [
          | inl inside ↦ absurd (listed inside is)
          | inr past ↦ omega (arith, past)
        ]
        in
        ap (first_at firsts) is ∙ ap first_two (sym (referrers-outside memory weak marks object outside))

    pub firsts_are : (objects : List ℕ) → AreRows (object_count memory) (length objects) objects rows
        → map (λ object. first_at firsts (row_of rows object)) objects
        ≡ map (λ object. first_two (referrers memory weak marks object)) objects
    firsts_are objects listed =
        map-same (λ object. first_at firsts (row_of rows object)) (λ object. first_two (referrers memory weak marks object))
        objects objects refl
        (λ k lt. first_is (slice_index objects k) (listed.each k lt) (row_of rows (slice_index objects k)) refl)

  first_two-inside : (references : List Referrer) → All (λ referrer. referrer.object < object_count memory) references
      → AreInside (object_count memory) (first_two references)
  first_two-inside [] inside = record { first = tt; second = tt }
  first_two-inside (one ∷ []) inside = record { first = inside 0 one (omega arith); second = tt }
  first_two-inside (one ∷ two ∷ rest) inside = record {
    first = inside 0 one (omega arith);
    second = inside 1 one (omega arith);
  }

  pub firsts-inside : (objects : List ℕ)
      → All (AreInside (object_count memory)) (map (λ object. first_two (referrers memory weak marks object)) objects)
  firsts-inside objects =
      All-map (AreInside (object_count memory)) (λ object. first_two (referrers memory weak marks object)) objects
      (λ k d lt. first_two-inside (referrers memory weak marks (get_or objects k d)) (referrers-inside memory weak marks (get_or objects k d)))
