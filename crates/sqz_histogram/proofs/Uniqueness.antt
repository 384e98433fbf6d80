-- Marked objects have only one histogram.
-- Serves `laws::one_histogram` and `SumLemmas`; `Uniqueness` of `sqz_census`.
use Rattle.std.proofs.Common.{◌≡◌, ℕ, nat_lt, Bool, true, List, map, refl, sym, ap, ◌∙◌, inl, inr, arith}
use Rattle.std.proofs.lemmas.Bool.Decides.{nat_tests}
use Rattle.sqz_image.specs.Objects.{Memory, address_of}
use Rattle.sqz_trace.specs.declared.weak.Weak.{Weak}
use Rattle.sqz_histogram.specs.declared.group.Group.{Group}
use Rattle.sqz_histogram.specs.declared.group.Group.TheVariants.{Class, Compact}
use Rattle.sqz_histogram.specs.declared.group.GroupTotal.{GroupTotal}
use Rattle.sqz_histogram.specs.Groups.{is_lower, ComesBefore, AreGroups}
use Rattle.sqz_histogram.specs.Histogram.{total_of, IsHistogram}
use Rattle.sqz_histogram.proofs.OrderedLemmas.{IsOrdered-unique}

nat_lt-joins : (a b c : ℕ) → nat_lt a b ≡ true → nat_lt b c ≡ true → nat_lt a c ≡ true
nat_lt-joins a b c p q = grind (arith, nat_tests)

nat_lt-itself : (a : ℕ) → nat_lt a a ≡ true → ⊥
nat_lt-itself a p = grind (arith, nat_tests)

module _ (memory : Memory) (weak : Weak) (marks : List Bool) (address : ℕ → ℕ) where
  -- no group is lower than itself, by addresses or by compact indexes
  is_lower-itself : (group : Group) → is_lower address group group ≡ true → ⊥
  is_lower-itself (Class class) lower = nat_lt-itself _ lower
  is_lower-itself (Compact index) lower = nat_lt-itself _ lower

  -- and what is lower than a lower one is lower
  is_lower-joins : (one two three : Group) → is_lower address one two ≡ true → is_lower address two three ≡ true
      → is_lower address one three ≡ true
  is_lower-joins (Class one) (Class two) (Class three) p q = nat_lt-joins _ _ _ p q
  is_lower-joins (Class one) (Class two) (Compact three) p q = refl
  is_lower-joins (Class one) (Compact two) (Class three) p q = cc
  is_lower-joins (Class one) (Compact two) (Compact three) p q = refl
  is_lower-joins (Compact one) (Class two) three p q = cc
  is_lower-joins (Compact one) (Compact two) (Class three) p q = cc
  is_lower-joins (Compact one) (Compact two) (Compact three) p q = nat_lt-joins one two three p q

  -- no group comes before itself
  pub ComesBefore-itself : (group : Group) → ComesBefore memory weak marks address group group → ⊥
  ComesBefore-itself group (inl more) = absurd (omega arith)
  ComesBefore-itself group (inr (same, lower)) = is_lower-itself group lower

  -- and what comes before an earlier one comes before the later
  ComesBefore-joins : (one two three : Group)
      → ComesBefore memory weak marks address one two → ComesBefore memory weak marks address two three
      → ComesBefore memory weak marks address one three
  ComesBefore-joins one two three (inl p) (inl q) = inl (omega arith)
  ComesBefore-joins one two three (inl p) (inr q) = inl (omega (arith, q.0))
  ComesBefore-joins one two three (inr p) (inl q) = inl (omega (arith, p.0))
  ComesBefore-joins one two three (inr p) (inr q) = inr (p.0 ∙ q.0, is_lower-joins one two three p.1 q.1)

  -- the groups that have a member stand in one order
  pub AreGroups-unique : (groups others : List Group)
      → AreGroups memory weak marks address groups → AreGroups memory weak marks address others → groups ≡ others
  AreGroups-unique groups others one other =
      IsOrdered-unique (ComesBefore memory weak marks address) ComesBefore-itself ComesBefore-joins groups others
      one.ordered other.ordered
      (λ group has. (other.all group).1 ((one.all group).0 has)) (λ group has. (one.all group).1 ((other.all group).0 has))

module _ (memory : Memory) (weak : Weak) (marks : List Bool) where
  pub IsHistogram-unique : (totals others : List GroupTotal)
      → IsHistogram memory weak marks totals → IsHistogram memory weak marks others → totals ≡ others
  IsHistogram-unique totals others one other =
      let groups = AreGroups-unique memory weak marks (address_of memory) one.groups other.groups one.listed other.listed in
      one.are ∙ ap (map (total_of memory weak marks)) groups ∙ sym other.are
