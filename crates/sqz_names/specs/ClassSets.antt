-- Sets of classes while the classes of an image are collected.
use Rattle.std.specs.Prelude.{◌≡◌, ◌<◌, ℕ, Bool, true, List, length, Some}
use Rattle.sqz_image.specs.Objects.{Memory, object_count, chunk_words}
use Rattle.sqz_trace.specs.declared.weak.Weak.{Weak}
use Rattle.sqz_trace.specs.Graph.{is_marked}
use Rattle.sqz_trace.specs.Strong.{class_of}
use Rattle.sqz_names.specs.Structures.{IsClass, IsNamedInstance}

-- a flag per object; the objects of this set are classes
pub record IsClassSet (memory : Memory) (weak : Weak) (set : List Bool) : Type 0 where
  pub sized : length set ≡ object_count memory
  pub classes : (class : ℕ) → is_marked set class ≡ true → IsClass memory weak class

-- this set has the classes of those of the first `seen` objects about which a fact is true
abbrev pub HasClassesOf : Memory → Weak → (ℕ → Type 0) → ℕ → List Bool → Type 0
HasClassesOf memory weak P seen set =
    (object class : ℕ) → object < seen → P object → class_of memory weak (chunk_words memory object) ≡ Some class
    → is_marked set class ≡ true

-- this set has the only instances of metaclasses that have names of their own
abbrev pub HasNamedInstances : Memory → Weak → List Bool → Type 0
HasNamedInstances memory weak set =
    (class : ℕ) → class < object_count memory → IsNamedInstance memory weak class → is_marked set class ≡ true
