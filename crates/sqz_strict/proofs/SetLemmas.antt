-- What one object adds to a list.
-- Serves `sets`, `associations` and `warnings::warnings_with`.
use Rattle.std.proofs.Common.{◌≡◌, ℕ, Bool, cond, List, [], None, ap}
use Rattle.sqz_image.specs.declared.slot.Slot.TheVariants.{Field}
use Rattle.sqz_image.specs.Objects.{Memory, chunk_words}
use Rattle.sqz_trace.specs.declared.weak.Weak.{Weak}
use Rattle.sqz_trace.specs.Graph.{is_marked}
use Rattle.sqz_trace.specs.Strong.{class_of}
use Rattle.sqz_trace.specs.Targets.{target}
use Rattle.sqz_names.specs.Fields.{associations_field}
use Rattle.sqz_strict.specs.declared.warnings.ObjectSets.{ObjectSets}
use Rattle.sqz_strict.specs.Sets.{class_at, is_class, held_at, array_at, elements_of, elements_at}
use Rattle.sqz_strict.specs.Warnings.{warnings_of, warnings_at}

module _ (memory : Memory) (weak : Weak) (marks : List Bool) (index : ℕ) (answer : Bool) where
  pub class_at-mark : is_marked marks index ≡ answer
      → class_at memory weak marks index ≡ cond answer (class_of memory weak (chunk_words memory index)) None
  class_at-mark is = ap (λ (test : Bool). cond test (class_of memory weak (chunk_words memory index)) None) is

  pub held_at-class : (classes : List Bool) (field : ℕ) → is_class memory weak marks classes index ≡ answer
      → held_at memory weak marks classes field index ≡ cond answer (target memory index (Field field)) None
  held_at-class classes field is = ap (λ (test : Bool). cond test (target memory index (Field field)) None) is

  pub warnings_at-mark : (sets : ObjectSets) → is_marked marks index ≡ answer
      → warnings_at memory weak marks sets index ≡ cond answer (warnings_of memory weak marks sets index) []
  warnings_at-mark sets is = ap (λ (test : Bool). cond test (warnings_of memory weak marks sets index) []) is

module _ (memory : Memory) (set : List Bool) (index : ℕ) (answer : Bool) (is : is_marked set index ≡ answer) where
  pub array_at-mark : array_at memory set index ≡ cond answer (target memory index (Field associations_field)) None
  array_at-mark = ap (λ (test : Bool). cond test (target memory index (Field associations_field)) None) is

  pub elements_at-mark : elements_at memory set index ≡ cond answer (elements_of memory index) []
  elements_at-mark = ap (λ (test : Bool). cond test (elements_of memory index) []) is
