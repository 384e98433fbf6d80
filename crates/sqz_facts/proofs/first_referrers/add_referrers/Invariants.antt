use Rattle.std.proofs.Common.{◌≡◌, ◌++◌, ℕ, List, length}
use Rattle.sqz_facts.specs.declared.referrers.Referrer.{Referrer}
use Rattle.sqz_facts.specs.Referrers.{referrers_among}
use Rattle.sqz_facts.specs.FirstReferrers.{AreFirstTwo}
use Rattle.sqz_facts.proofs.first_referrers.add_referrers.Given as goal

abbrev pub invariant-loop-slot : goal.invariant-loop-slot
invariant-loop-slot l = record {
  same_length : length l.firsts ≡ length l.initial.firsts;
  added : (before : ℕ → List Referrer) → AreFirstTwo l.rows before l.initial.firsts
      → AreFirstTwo l.rows (λ object. before object ++ referrers_among l.edges l.from object l.yielded) l.firsts;
}
