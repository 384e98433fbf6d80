-- Objects that become grey, one after the other, and the list that grows by them.
-- Serves `turns::blacken_listed` and `turns::grey_listed`.
use Rattle.std.proofs.Common.{◌≡◌, ℕ, zero, suc, ◌+◌, ◌<◌, true, List, [], ◌∷◌, ◌++◌, length, set}
use Rattle.std.proofs.Common.{refl, sym, ap, subst, ◌∙◌, arith, inl, inr, length-append, append_assoc, append-nil}
use Rattle.std.specs.Prelude.{Contains}
use Rattle.std.proofs.lemmas.Bool.{cases_order}
use Rattle.std.proofs.lemmas.List.{get_or-set_same, get_or-set_other}
use Rattle.std.proofs.lemmas.List.Elements.{Contains-push, Contains-push_cases}
use Rattle.std.proofs.lemmas.List.Elements.{Contains-append_left, Contains-append_right, Contains-append_cases}
use Rattle.sqz_trace.specs.declared.shades.Shade.{Shade}
use Rattle.sqz_trace.specs.declared.shades.Shade.TheVariants.{White, Grey, Black}
use Rattle.sqz_trace.specs.Graph.{is_marked}
use Rattle.sqz_trace.specs.Shades.{shade_at, has_mark, marks_of}
use Rattle.sqz_trace.specs.Greying.{white, white_count, BecameGrey, Greys, IsListed}
use Rattle.sqz_trace.proofs.ShadeLemmas.{is_marked-shade, white_unmarked, white_or_marked}
use Rattle.sqz_trace.proofs.GreyingLemmas.{Greys-was_white, Greys-stays_grey, white_stays}

-- what another shade of an object changes in the number of the white ones
pub white_count-set : (shades : List Shade) (index : ℕ) (shade : Shade) → index < length shades
    → white_count (set shades index shade) + white (shade_at shades index) ≡ white_count shades + white shade
white_count-set [] index shade lt = absurd (omega arith)
white_count-set (was ∷ shades) zero shade lt = omega arith
white_count-set (was ∷ shades) (suc index) shade lt =
    let rest = white_count-set shades index shade (omega arith) in
    omega (arith, rest)

-- ---- lists that grow

module _ (list : List ℕ) where
  -- by none, where no shade changes
  pub IsListed-none : (shades : List Shade) → IsListed shades shades list list
  IsListed-none shades =
      record {
        added = [];
        at_end = sym (append-nil list);
        became = λ index white marked. absurd (white_unmarked shades index white marked);
        only = λ index there. absurd (omega (arith, there.1));
        measure = omega arith;
      }

  -- by the one white object that becomes grey
  pub IsListed-one : (shades : List Shade) (found : ℕ) → found < length shades → shade_at shades found ≡ White
      → IsListed shades (set shades found Grey) list (list ++ found ∷ [])
  IsListed-one shades found inside is =
      record {
        added = found ∷ [];
        at_end = refl;
        became = λ index white marked. elim (cases_order index found) [
          | inl same ↦ subst (Contains (found ∷ [])) (sym same) (Contains-push [] found)
          | inr (inl lt) ↦ absurd (other index (λ e. absurd (omega arith)) white marked)
          | inr (inr gt) ↦ absurd (other index (λ e. absurd (omega arith)) white marked)
        ];
        only = λ index there. elim (Contains-push_cases [] found index there) [
          | inl none ↦ absurd (omega (arith, none.1))
          | inr same ↦
              subst (BecameGrey shades (set shades found Grey)) same (is, get_or-set_same shades found Grey White inside)
        ];
        measure = omega (arith, white_count-set shades found Grey inside, ap white is);
      } where
        other : (index : ℕ) → (index ≡ found → ⊥) → shade_at shades index ≡ White
            → is_marked (marks_of (set shades found Grey)) index ≡ true → ⊥
        other index differs white marked =
            white_unmarked (set shades found Grey) index
            (get_or-set_other shades found index Grey White differs ∙ white) marked

-- there is room for all that are still white
pub IsListed-room : (old new : List Shade) (list longer : List ℕ) → IsListed old new list longer
    → length longer + white_count new ≡ length list + white_count old
IsListed-room old new list longer listed =
    omega (arith, ap length listed.at_end, length-append list listed.added, listed.measure)

module _ (IsTarget : ℕ → Type 0) (old shades : List Shade) (list longer : List ℕ) (greys : Greys IsTarget old shades)
    (listed : IsListed old shades list longer) where
  -- by some objects that become grey, and then by others
  pub IsListed-then : (IsOther : ℕ → Type 0) (new : List Shade) (longest : List ℕ) → Greys IsOther shades new
      → IsListed shades new longer longest → IsListed old new list longest
  IsListed-then IsOther new longest later second =
      record {
        added = listed.added ++ second.added;
        at_end =
            second.at_end ∙ ap (λ front. front ++ second.added) listed.at_end
            ∙ append_assoc list listed.added second.added;
        became = λ index white marked. elim (white_or_marked shades index) [
          | inl still ↦ Contains-append_right listed.added second.added index (second.became index still marked)
          | inr before ↦ Contains-append_left listed.added second.added index (listed.became index white before)
        ];
        only = λ index there. elim (Contains-append_cases listed.added second.added index there) [
          | inl front ↦
              ((listed.only index front).0, Greys-stays_grey IsOther shades new later index (listed.only index front).1)
          | inr back ↦
              (Greys-was_white IsTarget old shades greys index (second.only index back).0, (second.only index back).1)
        ];
        measure = omega (arith, listed.measure, second.measure, length-append listed.added second.added);
      }

  -- and a grey object that becomes black is not among them
  pub IsListed-blackened : (object : ℕ) → object < length shades → shade_at old object ≡ Grey
      → IsListed old (set shades object Black) list longer
  IsListed-blackened object inside grey =
      record {
        added = listed.added;
        at_end = listed.at_end;
        became = λ index white marked. listed.became index white
            (is_marked-shade shades index ∙ ap has_mark (sym (white_stays old shades object grey index white))
            ∙ sym (is_marked-shade (set shades object Black) index) ∙ marked);
        only = λ index there.
            let was = (listed.only index there).0 in
            (was, white_stays old shades object grey index was ∙ (listed.only index there).1);
        measure =
            omega (
              arith,
              listed.measure,
              white_count-set shades object Black inside,
              ap white (Greys-stays_grey IsTarget old shades greys object grey),
            );
      }
