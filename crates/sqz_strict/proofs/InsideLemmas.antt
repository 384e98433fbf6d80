-- The objects that warnings are about.
-- Serves `findings_of`.
use Rattle.std.proofs.Common.{◌≡◌, ◌∙◌, ◌<◌, ◌≤◌, ◌+◌, ◌&&◌, ℕ, zero, suc, Bool, true, false, cond, List, [], ◌∷◌}
use Rattle.std.proofs.Common.{Option, Some, None, refl, sym, ap, subst, arith}
use Rattle.std.specs.Prelude.{All}
use Rattle.std.specs.List.{flat_map, range_with_len}
use Rattle.std.proofs.lemmas.List.Elements.{All-nil, All-push, All-append}
use Rattle.sqz_image.specs.Objects.{Memory, object_count}
use Rattle.sqz_trace.specs.declared.weak.Weak.{Weak}
use Rattle.sqz_trace.specs.Graph.{is_marked}
use Rattle.sqz_facts.proofs.RangeLemmas.{flat_map-next}
use Rattle.sqz_strict.specs.declared.class_shape.ClassShape.{ClassShape}
use Rattle.sqz_strict.specs.declared.warning.Warning.{Warning}
use Rattle.sqz_strict.specs.declared.warning.Warning.TheVariants.{Shape, NoClass, NoMethodDictionary, MethodDictionary, NoKey}
use Rattle.sqz_strict.specs.declared.warnings.ObjectSets.{ObjectSets}
use Rattle.sqz_strict.specs.Shapes.{misfit}
use Rattle.sqz_strict.specs.Sets.{is_class, is_short, has_no_key, has_no_class, lacks_methods}
use Rattle.sqz_strict.specs.Warnings.{object_of, one_if, shape_warnings, warnings_of, warnings_at, all_warnings}

-- a warning about one of the first objects
abbrev pub IsAboutFirst : ℕ → Warning → Type 0
IsAboutFirst bound warning = object_of warning < bound

module _ (bound object : ℕ) (inside : object < bound) where
  shape_inside : (stated : Option ClassShape) → All (IsAboutFirst bound) (shape_warnings object stated)
  shape_inside None = All-nil (IsAboutFirst bound)
  shape_inside (Some stated) = All-push (IsAboutFirst bound) [] (Shape object stated) (All-nil (IsAboutFirst bound)) inside

  one_inside : (test : Bool) (warning : Warning) → object_of warning ≡ object
      → All (IsAboutFirst bound) (cond test (warning ∷ []) [])
  one_inside true warning about =
      All-push (IsAboutFirst bound) [] warning (All-nil (IsAboutFirst bound)) (subst (λ (n : ℕ). n < bound) (sym about) inside)
  one_inside false warning about = All-nil (IsAboutFirst bound)

-- what the first numbers give has a property that it has for each
All-first : {X : Type 0} (P : X → Type 0) (f : ℕ → List X) (bound count : ℕ) → count ≤ bound
    → ((k : ℕ) → k < bound → All P (f k)) → All P (flat_map f (range_with_len 0 count))
All-first P f bound zero le each = All-nil P
All-first P f bound (suc count) le each =
    let next : suc count ≡ count + 1 = omega arith in
    subst (All P)
    (sym (ap (λ (n : ℕ). flat_map f (range_with_len 0 n)) next ∙ flat_map-next f count))
    (All-append P (flat_map f (range_with_len 0 count)) (f count) (All-first P f bound count (omega (arith, le)) each)
    (each count (omega (arith, le))))

module _ (memory : Memory) (weak : Weak) (marks : List Bool) (sets : ObjectSets) where
  of_inside : (bound object : ℕ) → object < bound → All (IsAboutFirst bound) (warnings_of memory weak marks sets object)
  of_inside bound object inside =
      let P = IsAboutFirst bound in
      let one : (test : Bool) (warning : Warning) → object_of warning ≡ object → All P (one_if test warning) =
      one_inside bound object inside in
      let classless = has_no_class memory weak object in
      let shape = misfit memory weak object in
      let methodless = is_class memory weak marks sets.classes object && lacks_methods memory object in
      let short = is_marked sets.dictionaries object && is_short memory object in
      let keyless = is_marked sets.associations object && has_no_key memory object in
      All-append P _ _
      (All-append P _ _
      (All-append P _ _
      (All-append P _ _ (one classless (NoClass object) refl) (shape_inside bound object inside shape))
      (one methodless (NoMethodDictionary object) refl))
      (one short (MethodDictionary object) refl))
      (one keyless (NoKey object) refl)

  at_inside : (bound object : ℕ) → object < bound → All (IsAboutFirst bound) (warnings_at memory weak marks sets object)
  at_inside bound object inside = at (is_marked marks object)
    where
      at : (test : Bool) → All (IsAboutFirst bound) (cond test (warnings_of memory weak marks sets object) [])
      at true = of_inside bound object inside
      at false = All-nil (IsAboutFirst bound)

  -- all warnings are about objects of the image
  pub All-inside : All (IsAboutFirst (object_count memory)) (all_warnings memory weak marks sets)
  All-inside =
      All-first (IsAboutFirst (object_count memory)) (warnings_at memory weak marks sets) (object_count memory)
      (object_count memory) (omega arith) (at_inside (object_count memory))
