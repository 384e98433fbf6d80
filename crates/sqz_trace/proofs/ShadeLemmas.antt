-- Shades and the marks that they stand for.
-- Serves `finishing::finish`, `marking::mark_plain`, `marking::mark_target`, `GreyingLemmas`,
-- `LawLemmas` and `TurnLemmas`; `EventLemmas`, `KeptLemmas`, `RunLemmas`, `StepLemmas` and
-- `WonLemmas` of `sqz_marks`; `scanning::scan_if_grey` and `RemainingLemmas` of `sqz_workers`.
use Rattle.std.proofs.Common.{◌≡◌, ◌⊎◌, ℕ, zero, suc, List, true, false, [], ◌∷◌, length, refl, sym, ap, ◌∙◌, inl, inr}
use Rattle.std.specs.Prelude.{replicate}
use Rattle.std.proofs.lemmas.List.{length-map}
use Rattle.sqz_trace.specs.declared.shades.Shade.{Shade}
use Rattle.sqz_trace.specs.declared.shades.Shade.TheVariants.{White, Grey, Black}
use Rattle.sqz_trace.specs.Graph.{is_marked}
use Rattle.sqz_trace.specs.Shades.{shade_at, has_mark, marks_of}

-- the mark of an object is that of its shade
pub is_marked-shade : (shades : List Shade) (index : ℕ) → is_marked (marks_of shades) index ≡ has_mark (shade_at shades index)
is_marked-shade [] index = refl
is_marked-shade (shade ∷ shades) zero = refl
is_marked-shade (shade ∷ shades) (suc index) = is_marked-shade shades index

-- white objects have no marks
pub marks_of-replicate : (count : ℕ) → marks_of (replicate count White) ≡ replicate count false
marks_of-replicate zero = refl
marks_of-replicate (suc count) = ap (λ marks. false ∷ marks) (marks_of-replicate count)

-- as many marks are as many shades
pub same_length : (new old : List Shade) → length (marks_of new) ≡ length (marks_of old) → length new ≡ length old
same_length new old same = sym (length-map new has_mark) ∙ same ∙ length-map old has_mark

-- there are as many marks as shades
pub length-marks_of : (shades : List Shade) → length (marks_of shades) ≡ length shades
length-marks_of shades = length-map shades has_mark

-- no two shades are one
pub white-grey : White ≡ Grey → ⊥
white-grey e = absurd cc

pub white-black : White ≡ Black → ⊥
white-black e = absurd cc

pub grey-black : Grey ≡ Black → ⊥
grey-black e = absurd cc

-- an object of a shade that is marked is marked
pub marked-by : (shades : List Shade) (index : ℕ) (shade : Shade) → shade_at shades index ≡ shade → has_mark shade ≡ true
    → is_marked (marks_of shades) index ≡ true
marked-by shades index shade is marked = is_marked-shade shades index ∙ ap has_mark is ∙ marked

-- an object of the same shade in two lists has the same mark
pub marked-same : (old new : List Shade) (index : ℕ) → shade_at new index ≡ shade_at old index → is_marked (marks_of old) index ≡ true
    → is_marked (marks_of new) index ≡ true
marked-same old new index same marked =
    is_marked-shade new index ∙ ap has_mark same ∙ sym (is_marked-shade old index) ∙ marked

-- a white object has no mark
pub white_unmarked : (shades : List Shade) (index : ℕ) → shade_at shades index ≡ White
    → is_marked (marks_of shades) index ≡ true → ⊥
white_unmarked shades index is marked =
    absurd (shade-unmarked (shade_at shades index) is (sym (is_marked-shade shades index) ∙ marked))
  where
    shade-unmarked : (shade : Shade) → shade ≡ White → has_mark shade ≡ true → ⊥
    shade-unmarked White is marked = absurd cc
    shade-unmarked Grey is marked = absurd cc
    shade-unmarked Black is marked = absurd cc

-- and each other has one
pub white_or_marked : (shades : List Shade) (index : ℕ)
    → (shade_at shades index ≡ White) ⊎ (is_marked (marks_of shades) index ≡ true)
white_or_marked shades index =
    elim (by_shade (shade_at shades index)) [
      | inl is ↦ inl is
      | inr marked ↦ inr (is_marked-shade shades index ∙ marked)
    ]
  where
    by_shade : (shade : Shade) → (shade ≡ White) ⊎ (has_mark shade ≡ true)
    by_shade White = inl refl
    by_shade Grey = inr refl
    by_shade Black = inr refl
