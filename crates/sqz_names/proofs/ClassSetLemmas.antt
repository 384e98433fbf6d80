-- Sets to which objects are added, one after the other.
-- Serves `classes`, `methods`, `variables` and `lookup`.
use Rattle.std.proofs.Common.{◌≡◌, ℕ, ◌+◌, ◌<◌, Bool, true, List, set, length, Some}
use Rattle.std.proofs.Common.{sym, ap, subst, ◌∙◌, inl, inr, arith}
use Rattle.std.proofs.Math.Logic.{∥∥₁_elim}
use Rattle.std.proofs.lemmas.Bool.{cases_lt}
use Rattle.std.proofs.lemmas.Option.{same_Some}
use mathlib.Core.Bool.{Bool-set}
use Rattle.sqz_image.specs.Objects.{Memory, object_count, chunk_words}
use Rattle.sqz_trace.specs.declared.weak.Weak.{Weak}
use Rattle.sqz_trace.specs.Graph.{IsReachable, is_marked}
use Rattle.sqz_trace.specs.Reachability.{IsReachability, graph_from}
use Rattle.sqz_trace.specs.Strong.{class_of}
use Rattle.sqz_trace.proofs.MarkedLemmas.{is_marked-inside}
use Rattle.sqz_trace.proofs.MarkingLemmas.{is_marked-added, is_marked-keeps}
use Rattle.sqz_names.specs.Structures.{AreClasses, IsLive, IsNamedInstanceOf}
use Rattle.sqz_names.specs.ClassSets.{HasClassesOf, HasNamedInstances, IsClassSet}

module _ (memory : Memory) (weak : Weak) where
  -- the set has each instance that a metaclass among the first `seen` objects states
  abbrev pub HasInstancesOf : List Bool → ℕ → List Bool → Type 0
  HasInstancesOf of_objects seen set' =
      (metaclass class : ℕ) → metaclass < seen → is_marked of_objects metaclass ≡ true
      → IsNamedInstanceOf memory weak metaclass class → is_marked set' class ≡ true

  module _ (P : ℕ → Type 0) (seen : ℕ) (set' : List Bool) (has : HasClassesOf memory weak P seen set') where
    -- one object more, whose class is added
    pub HasClassesOf-add : (class : ℕ) → class < length set' → class_of memory weak (chunk_words memory seen) ≡ Some class
        → HasClassesOf memory weak P (seen + 1) (set set' class true)
    HasClassesOf-add class inside is object its lt holds found =
        elim (cases_lt object seen) [
          | inl before ↦ is_marked-keeps set' class its (has object its before holds found)
          | inr after ↦
              let same : object ≡ seen = omega (arith, lt, after) in
              let one : class ≡ its =
              same_Some _ _ (sym is ∙ ap (λ (it : ℕ). class_of memory weak (chunk_words memory it)) (sym same) ∙ found) in
              subst (λ (it : ℕ). is_marked (set set' class true) it ≡ true) one (is_marked-added set' class inside)
        ]

    -- one object more, about which the fact is not true or which has no class
    pub HasClassesOf-skip : ((class : ℕ) → P seen → class_of memory weak (chunk_words memory seen) ≡ Some class → ⊥)
        → HasClassesOf memory weak P (seen + 1) set'
    HasClassesOf-skip never object its lt holds found =
        elim (cases_lt object seen) [
          | inl before ↦ has object its before holds found
          | inr after ↦
              let same : object ≡ seen = omega (arith, lt, after) in
              absurd (never its (subst P same holds)
              (ap (λ (it : ℕ). class_of memory weak (chunk_words memory it)) (sym same) ∙ found))
        ]

  module _ (of_objects : List Bool) (seen : ℕ) (set' : List Bool) (has : HasInstancesOf of_objects seen set') where
    -- one metaclass more, whose instance is added
    pub HasInstancesOf-add : (instance : ℕ) → instance < length set'
        → ((class : ℕ) → IsNamedInstanceOf memory weak seen class → instance ≡ class)
        → HasInstancesOf of_objects (seen + 1) (set set' instance true)
    HasInstancesOf-add instance inside only metaclass class lt marked is =
        elim (cases_lt metaclass seen) [
          | inl before ↦ is_marked-keeps set' instance class (has metaclass class before marked is)
          | inr after ↦
              let same : metaclass ≡ seen = omega (arith, lt, after) in
              subst (λ (it : ℕ). is_marked (set set' instance true) it ≡ true)
              (only class (subst (λ (it : ℕ). IsNamedInstanceOf memory weak it class) same is))
              (is_marked-added set' instance inside)
        ]

    -- one object more, which is no class of an object, or states no such instance
    pub HasInstancesOf-skip : (is_marked of_objects seen ≡ true → (class : ℕ) → IsNamedInstanceOf memory weak seen class → ⊥)
        → HasInstancesOf of_objects (seen + 1) set'
    HasInstancesOf-skip never metaclass class lt marked is =
        elim (cases_lt metaclass seen) [
          | inl before ↦ has metaclass class before marked is
          | inr after ↦
              let same : metaclass ≡ seen = omega (arith, lt, after) in
              absurd (never (subst (λ (it : ℕ). is_marked of_objects it ≡ true) same marked) class
              (subst (λ (it : ℕ). IsNamedInstanceOf memory weak it class) same is))
        ]

  -- metaclasses are among the classes of objects
  pub HasNamedInstances-all : (of_objects set' : List Bool) (seen : ℕ)
      → ((metaclass : ℕ) → is_marked of_objects metaclass ≡ true → metaclass < seen)
      → HasClassesOf memory weak (λ object. Unit {0}) (object_count memory) of_objects
      → HasInstancesOf of_objects seen set' → HasNamedInstances memory weak set'
  HasNamedInstances-all of_objects set' seen inside all has class lt found =
      let is_class : is_marked of_objects found.metaclass ≡ true = all class found.metaclass lt tt found.is.is_class in
      has found.metaclass class (inside found.metaclass is_class) is_class found.is

  -- a live object is marked
  is_marked-live : (marks : List Bool) (object : ℕ) → IsReachability memory weak marks → IsLive memory weak object
      → is_marked marks object ≡ true
  is_marked-live marks object reachable live =
      let same : live.start ≡ reachable.start = same_Some _ _ (sym live.is_special ∙ reachable.is_special) in
      reachable.reached.complete object
      (subst (λ (start : ℕ). IsReachable (graph_from start memory weak) object) same live.reached)

  -- a set of classes that has those of live objects and the instances of metaclasses is complete
  pub AreClasses-all : (marks set' : List Bool) → ∥ IsReachability memory weak marks ∥₁ → length marks ≡ object_count memory
      → IsClassSet memory weak set' → HasClassesOf memory weak (λ object. is_marked marks object ≡ true) (object_count memory) set'
      → HasNamedInstances memory weak set' → AreClasses memory weak set'
  AreClasses-all marks set' reachability one_each are of_live instances = record {
    sound = are.classes;
    complete = λ class inside is.
        ∥∥₁_elim is (Bool-set _ _) (λ it. elim it [
          | inl of_one ↦
              ∥∥₁_elim reachability (Bool-set _ _) (λ reachable.
              let marked : is_marked marks of_one.instance ≡ true = is_marked-live marks of_one.instance reachable of_one.live in
              of_live of_one.instance class
              (omega (arith, is_marked-inside marks of_one.instance marked, one_each)) marked of_one.is_class)
          | inr instance ↦ instances class inside instance
        ]);
  }
