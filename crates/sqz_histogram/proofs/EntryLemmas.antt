-- The entries of all objects, made one after another.
-- Serves `entries::entries_of`.
use Rattle.std.proofs.Common.{◌≡◌, ℕ, zero, suc, ◌+◌, ◌<◌, Bool, List, [], ◌∷◌, length, get_or, refl, ap, subst, ◌∙◌, arith}
use Rattle.std.specs.List.{AllZip, range_with_len}
use Rattle.sqz_image.specs.Objects.{Memory, object_count}
use Rattle.sqz_trace.specs.declared.weak.Weak.{Weak}
use Rattle.sqz_histogram.specs.declared.entries.Entry.{Entry}
use Rattle.sqz_histogram.specs.Keys.{IsEntryOf, AreEntries, no_entry}

module _ (memory : Memory) (weak : Weak) (marks : List Bool) where
  abbrev AreZipped : ℕ → ℕ → List Entry → Type 0
  AreZipped from count = AllZip (IsEntryOf memory weak marks) (range_with_len from count)

  length-zipped : (from count : ℕ) (entries : List Entry) → AreZipped from count entries → length entries ≡ count
  length-zipped from zero [] zipped = refl
  length-zipped from zero (entry ∷ entries) zipped = absurd zipped
  length-zipped from (suc count) [] zipped = absurd zipped
  length-zipped from (suc count) (entry ∷ entries) zipped = ap suc (length-zipped (from + 1) count entries zipped.1)

  zipped-each : (from count : ℕ) (entries : List Entry) → AreZipped from count entries → (k : ℕ) → k < count
      → IsEntryOf memory weak marks (from + k) (get_or entries k no_entry)
  zipped-each from zero entries zipped k lt = absurd (omega arith)
  zipped-each from (suc count) [] zipped k lt = absurd zipped
  zipped-each from (suc count) (entry ∷ entries) zipped zero lt =
      let same : from + 0 ≡ from = omega arith in rw same zipped.0
  zipped-each from (suc count) (entry ∷ entries) zipped (suc k) lt =
      let next : from + suc k ≡ (from + 1) + k = omega arith in
      rw next (zipped-each (from + 1) count entries zipped.1 k (omega arith))

  -- the entries of as many objects as there are
  pub AreEntries-zipped : (count : ℕ) (entries : List Entry) → count ≡ object_count memory → AreZipped 0 count entries
      → AreEntries memory weak marks entries
  AreEntries-zipped count entries is zipped =
      record {
        sized = length-zipped 0 count entries zipped ∙ is;
        each = λ index lt.
            let at = index in let same : 0 + index ≡ index = omega arith in
            subst (λ (index : ℕ). IsEntryOf memory weak marks index (get_or entries at no_entry)) same
            (zipped-each 0 count entries zipped index (omega arith));
      }
