-- Which objects are classes, and which of them have a name of their own.
-- Serves `classes::classes_in` and `labels::Names::class_label`.
use Rattle.std.proofs.Common.{◌≡◌, ℕ, zero, suc, Bool, true, false, List, Option, Some, None, set}
use Rattle.std.proofs.Common.{refl, sym, ap, ◌∙◌, inl, inr, true≢false}
use Rattle.std.proofs.Math.Logic.{∥∥₁_map}
use Rattle.std.proofs.lemmas.List.{length-replicate, length-set}
use Rattle.std.proofs.lemmas.Option.{none-some, option_and_then_some}
use Rattle.std.specs.Prelude.{replicate, is_some, option_and_then, if◌then◌else◌}
use Rattle.sqz_object.specs.Chunk.{fields}
use Rattle.sqz_object.specs.Layout.{layout, is_weak_layout}
use Rattle.sqz_image.specs.declared.slot.Slot.{Slot}
use Rattle.sqz_image.specs.declared.slot.Slot.TheVariants.{Field}
use Rattle.sqz_image.specs.Objects.{Memory, object_count, chunk_words}
use Rattle.sqz_trace.specs.declared.weak.Weak.{Weak}
use Rattle.sqz_trace.specs.declared.weak.Weak.TheVariants.{Keep, Clear}
use Rattle.sqz_trace.specs.Edges.{strong_target}
use Rattle.sqz_trace.specs.Graph.{is_marked}
use Rattle.sqz_trace.specs.Reachability.{IsReachability}
use Rattle.sqz_trace.specs.Slots.{traced}
use Rattle.sqz_trace.specs.Strong.{class_of, fixed_by, is_weak, strong}
use Rattle.sqz_trace.specs.Targets.{target}
use Rattle.sqz_trace.proofs.TargetLemmas.{named_among-more}
use Rattle.sqz_histogram.specs.Names.{name_by, name_object, naming}
use Rattle.sqz_names.specs.Fields.{instance_field, name_field}
use Rattle.sqz_names.specs.Structures.{has_bytes, has_own_name, is_bytes, IsClass, IsMetaclass, IsNamedInstanceOf}
use Rattle.sqz_names.specs.ClassSets.{IsClassSet}
use Rattle.sqz_trace.proofs.MarkingLemmas.{is_marked-more}
use Rattle.sqz_names.proofs.LayoutLemmas.{strong-le}

-- what is there only if a test passes
some_only_if : (test : Bool) (x y : ℕ) → (if test then Some x else None) ≡ Some y → test ≡ true
some_only_if true x y is = refl
some_only_if false x y is = absurd (none-some y is)

-- the empty set has no object
pub is_marked-none : (count object : ℕ) → is_marked (replicate count false) object ≡ false
is_marked-none zero object = refl
is_marked-none (suc count) zero = refl
is_marked-none (suc count) (suc object) = is_marked-none count object

module _ (memory : Memory) (weak : Weak) where
  set-none : (count class : ℕ) → is_marked (replicate count false) class ≡ true → IsClass memory weak class
  set-none count class is = absurd (true≢false (sym is ∙ is_marked-none count class))

  pub IsClassSet-none : IsClassSet memory weak (replicate (object_count memory) false)
  IsClassSet-none = record {
    sized = length-replicate (object_count memory) false;
    classes = set-none (object_count memory);
  }

  -- one class more
  pub IsClassSet-more : (set' : List Bool) (class : ℕ) → IsClassSet memory weak set' → IsClass memory weak class
      → IsClassSet memory weak (set set' class true)
  IsClassSet-more set' class are is = record {
    sized = length-set set' class true ∙ are.sized;
    classes = is_marked-more (λ (it : ℕ). IsClass memory weak it) set' class are.classes is;
  }

  -- the class of a marked object
  pub IsClass-marked : (marks : List Bool) (instance class : ℕ) → ∥ IsReachability memory weak marks ∥₁
      → is_marked marks instance ≡ true → class_of memory weak (chunk_words memory instance) ≡ Some class
      → IsClass memory weak class
  IsClass-marked marks instance class reachable marked is =
      ∥∥₁_map reachable (λ found. inl (record {
        instance = instance;
        live = record {
          start = found.start;
          is_special = found.is_special;
          reached = found.reached.sound instance marked;
        };
        is_class = is;
      }))

  -- the only instance of a metaclass
  pub IsClass-instance : (metaclass class : ℕ) → IsNamedInstanceOf memory weak metaclass class → IsClass memory weak class
  IsClass-instance metaclass class is = ∣ inr (record { metaclass = metaclass; is = is }) ∣₁

  -- only the fields of weak objects can be weak
  has_weak_layout : (chunk : List ℕ) → is_weak weak chunk ≡ true → is_weak_layout (layout chunk) ≡ true
  has_weak_layout chunk = by_weak weak
    where
      by_weak : (policy : Weak) → is_weak policy chunk ≡ true → is_weak_layout (layout chunk) ≡ true
      by_weak Keep is = absurd cc
      by_weak Clear is = is

  -- what a strong slot points to
  pub target-strong : (object : ℕ) (slot : Slot) (found : ℕ) → strong_target memory weak object slot ≡ Some found
      → target memory object slot ≡ Some found
  target-strong object slot found is =
      let chunk = chunk_words memory object in
      named_among-more memory chunk (strong memory weak chunk) (traced chunk) slot found
      (strong-le (is_weak weak chunk) (layout chunk) (fields chunk) (fixed_by memory (class_of memory weak chunk)) (has_weak_layout chunk))
      is

  -- an object that has a name has one of its own
  has_own_name-object : (object name : ℕ) → name_object memory weak object ≡ Some name → has_own_name memory object ≡ true
  has_own_name-object object name is =
      option_and_then_some (λ (it : ℕ). if is_bytes memory it then Some it else None)
      (strong_target memory weak object (Field name_field)) name is
      (λ it held its.
      ap (has_bytes memory) (target-strong object (Field name_field) it held) ∙ some_only_if (is_bytes memory it) it name its)

  -- a class that has a name, but none of its own
  pub IsMetaclass-known : (class : ℕ) → is_some (naming memory weak class) ≡ true
      → has_own_name memory class ≡ false → IsMetaclass memory class
  IsMetaclass-known class known unnamed =
      by_names (name_object memory weak class)
      (option_and_then (name_object memory weak) (strong_target memory weak class (Field instance_field))) refl refl known
    where
      by_names : (own instance : Option ℕ) → name_object memory weak class ≡ own
          → option_and_then (name_object memory weak) (strong_target memory weak class (Field instance_field)) ≡ instance
          → is_some (name_by own instance) ≡ true → IsMetaclass memory class
      by_names (Some name) instance own other is =
          absurd (true≢false (sym (has_own_name-object class name own) ∙ unnamed))
      by_names None (Some name) own other is =
          option_and_then_some (name_object memory weak) (strong_target memory weak class (Field instance_field)) name other
          (λ instance held its. record {
            instance = instance;
            is_instance = target-strong class (Field instance_field) instance held;
            is_named = has_own_name-object instance name its;
            is_unnamed = unnamed;
          })
      by_names None None own other is = absurd (true≢false (sym is))
