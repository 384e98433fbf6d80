use Rattle.std.proofs.Common.{◌≡◌, ℕ, zero, suc, ◌<◌, true, false, List, [], ◌∷◌}
use Rattle.std.proofs.Common.{slice_index_or, refl, ap, inl, arith, rules}
use Rattle.sqz_trace.specs.declared.weak.Weak.TheVariants.{Keep}
use Rattle.sqz_histogram.specs.declared.group.Group.{Group}
use Rattle.sqz_histogram.specs.declared.group.Group.TheVariants.{Class, Compact}
use Rattle.sqz_histogram.specs.Groups.{is_same}
use Rattle.sqz_facts.specs.declared.members.Member.{Member}
use Rattle.sqz_facts.specs.Members.{IsOfGroup, IsMember, ComesBefore, no_member}
use Rattle.sqz_test_examples.specs.ClassEdge.{class_edge, class_edge_marks}
use Rattle.sqz_test_examples.proofs.questions.members_of_a_group.Goals as goal

abbrev IsOf : Group → ℕ → Type 0
IsOf group index = IsOfGroup class_edge Keep class_edge_marks group index

abbrev IsMemberOf : Group → Member → Type 0
IsMemberOf group member = IsMember class_edge Keep class_edge_marks group member

apart : (one other : Group) → one ≡ other → is_same one one ≡ true → is_same one other ≡ false → ⊥
apart one other same itself differs =
    let equal : is_same one one ≡ is_same one other = ap (λ group. is_same one group) same in absurd cc

-- ---- a class with one instance

abbrev instances : List Member
instances = record { object = 3; words = 3 } ∷ []

is_instance : (i : ℕ) → i < 1 → IsMemberOf (Class 2) (slice_index_or instances i no_member)
is_instance zero lt = record { is = record { inside = search rules; marked = refl; of_group = refl }; words = refl }
is_instance (suc i) lt = absurd (omega arith)

-- no other object is its instance
all_instances : (index : ℕ) → IsOf (Class 2) index → (i : ℕ) × (i < 1) × ((slice_index_or instances i no_member).object ≡ index)
all_instances zero is = absurd (apart (Compact 1) (Class 2) is.of_group refl refl)
all_instances (suc zero) is = let dead : false ≡ true = is.marked in absurd cc
all_instances (suc (suc zero)) is = absurd (apart (Compact 1) (Class 2) is.of_group refl refl)
all_instances (suc (suc (suc zero))) is = (0, omega arith, refl)
all_instances (suc (suc (suc (suc zero)))) is = absurd (apart (Compact 3) (Class 2) is.of_group refl refl)
all_instances (suc (suc (suc (suc (suc index))))) is =
    let inside : suc (suc (suc (suc (suc index)))) < 5 = is.inside in absurd (omega (arith, inside))

pub returns-clause-class : goal.returns-clause-class
returns-clause-class c =
    record { each = is_instance; all = all_instances; ordered = λ i j rises inside. absurd (omega (arith, rises, inside)) }

-- ---- a class without instances

none_of_nil : (index : ℕ) → IsOf (Class 0) index → ⊥
none_of_nil zero is = apart (Compact 1) (Class 0) is.of_group refl refl
none_of_nil (suc zero) is = let dead : false ≡ true = is.marked in absurd cc
none_of_nil (suc (suc zero)) is = apart (Compact 1) (Class 0) is.of_group refl refl
none_of_nil (suc (suc (suc zero))) is = apart (Class 2) (Class 0) is.of_group refl refl
none_of_nil (suc (suc (suc (suc zero)))) is = apart (Compact 3) (Class 0) is.of_group refl refl
none_of_nil (suc (suc (suc (suc (suc index))))) is =
    let inside : suc (suc (suc (suc (suc index)))) < 5 = is.inside in absurd (omega (arith, inside))

pub returns-clause-none : goal.returns-clause-none
returns-clause-none c =
    record {
      each = λ i lt. absurd (omega (arith, lt));
      all = λ index is. absurd (none_of_nil index is);
      ordered = λ i j rises inside. absurd (omega (arith, inside));
    }

-- ---- a compact index with two objects

abbrev two : List Member
two = record { object = 2; words = 2 } ∷ record { object = 0; words = 1 } ∷ []

is_compact : (i : ℕ) → i < 2 → IsMemberOf (Compact 1) (slice_index_or two i no_member)
is_compact zero lt = record { is = record { inside = search rules; marked = refl; of_group = refl }; words = refl }
is_compact (suc zero) lt = record { is = record { inside = search rules; marked = refl; of_group = refl }; words = refl }
is_compact (suc (suc i)) lt = absurd (omega arith)

all_compact : (index : ℕ) → IsOf (Compact 1) index → (i : ℕ) × (i < 2) × ((slice_index_or two i no_member).object ≡ index)
all_compact zero is = (1, omega arith, refl)
all_compact (suc zero) is = let dead : false ≡ true = is.marked in absurd cc
all_compact (suc (suc zero)) is = (0, omega arith, refl)
all_compact (suc (suc (suc zero))) is = absurd (apart (Class 2) (Compact 1) is.of_group refl refl)
all_compact (suc (suc (suc (suc zero)))) is = absurd (apart (Compact 3) (Compact 1) is.of_group refl refl)
all_compact (suc (suc (suc (suc (suc index))))) is =
    let inside : suc (suc (suc (suc (suc index)))) < 5 = is.inside in absurd (omega (arith, inside))

-- the longer chunk comes first
longer_first : (i j : ℕ) → i < j → j < 2 → ComesBefore (slice_index_or two i no_member) (slice_index_or two j no_member)
longer_first i zero rises inside = absurd (omega arith)
longer_first zero (suc zero) rises inside = inl (omega arith)
longer_first (suc i) (suc zero) rises inside = absurd (omega arith)
longer_first i (suc (suc j)) rises inside = absurd (omega arith)

pub returns-clause-compact : goal.returns-clause-compact
returns-clause-compact c = record { each = is_compact; all = all_compact; ordered = longer_first }
