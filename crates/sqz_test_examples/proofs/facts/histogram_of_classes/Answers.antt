use Rattle.std.proofs.Common.{ℕ, zero, suc, ◌<◌, List, [], ◌∷◌, length, refl, sym, ap, subst, arith}
use Rattle.std.proofs.Common.{inl, inr}
use Rattle.std.specs.Prelude.{slice_index_or, Contains}
use Rattle.std.proofs.lemmas.Bool.{cases_eq, ne_eqb}
use Rattle.sqz_trace.specs.declared.weak.Weak.TheVariants.{Keep}
use Rattle.sqz_histogram.specs.declared.group.Group.{Group}
use Rattle.sqz_histogram.specs.declared.group.Group.TheVariants.{Class, Compact}
use Rattle.sqz_histogram.specs.Groups.{members, ComesBefore}
use Rattle.sqz_image.specs.Objects.{address_of}
use Rattle.sqz_test_examples.specs.ClassEdge.{class_edge, class_edge_marks}
use Rattle.sqz_test_examples.proofs.facts.histogram_of_classes.Goals as goal

abbrev groups : List Group
groups = Class 2 ∷ Compact 1 ∷ Compact 3 ∷ []

abbrev HasMember : Group → Type 0
HasMember group = 0 < length (members class_edge Keep class_edge_marks group)

has_member : (k : ℕ) (d : Group) → k < 3 → HasMember (slice_index_or groups k d)
has_member zero d lt = omega arith
has_member (suc zero) d lt = omega arith
has_member (suc (suc zero)) d lt = omega arith
has_member (suc (suc (suc k))) d lt = absurd (omega arith)

listed : (group : Group) → HasMember group → Contains groups group
listed (Class class) some =
    elim (cases_eq class 2) [
      | inl same ↦ (0, omega arith, ap (λ (c : ℕ). Class c) (sym same))
      | inr apart ↦ (let none : 0 < 0 = rw (ne_eqb class 2 apart) at some in absurd (omega (arith, none)))
    ]
listed (Compact index) some =
    elim (cases_eq index 1) [
      | inl same ↦ (1, omega arith, ap (λ (i : ℕ). Compact i) (sym same))
      | inr first ↦ elim (cases_eq index 3) [
        | inl same ↦ (2, omega arith, ap (λ (i : ℕ). Compact i) (sym same))
        | inr second ↦
            let none : 0 < 0 = rw (ne_eqb index 1 first, ne_eqb index 3 second) at some in absurd (omega (arith, none))
      ]
    ]

in_order : (i j : ℕ) (d : Group) → i < j → j < 3
    → ComesBefore class_edge Keep class_edge_marks (address_of class_edge) (slice_index_or groups i d) (slice_index_or groups j d)
in_order zero zero d rises inside = absurd (omega arith)
in_order zero (suc zero) d rises inside = inr (refl, refl)
in_order zero (suc (suc zero)) d rises inside = inr (refl, refl)
in_order (suc zero) (suc (suc zero)) d rises inside = inr (refl, refl)
in_order i (suc (suc (suc j))) d rises inside = absurd (omega arith)
in_order (suc i) zero d rises inside = absurd (omega arith)
in_order (suc i) (suc zero) d rises inside = absurd (omega arith)
in_order (suc (suc i)) (suc (suc zero)) d rises inside = absurd (omega arith)

pub returns : goal.returns
returns c =
    record {
      groups = groups;
      are = refl;
      listed = record {
        all = λ group. (λ there. subst HasMember there.2 (has_member there.0 group there.1), listed group);
        ordered = in_order;
      };
    }
