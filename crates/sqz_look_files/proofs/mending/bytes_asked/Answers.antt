use Rattle.std.proofs.Common.{◌≡◌, ◌∙◌, ◌==◌, ℕ, List, true, false, length, refl, ap, arith, inl, inr}
use Rattle.sqz_damage.specs.declared.dangling.patch.Patch.{Patch}
use Rattle.sqz_look_files.proofs.mending.bytes_asked.Goals as goal
use Rattle.sqz_look_files.proofs.mending.bytes_asked.Goals.{then-not-is_empty+in_ok-text-in-Ok, else-not-is_empty}

pub returns-in-Ok-clause-asked : goal.returns-in-Ok-clause-asked
returns-in-Ok-clause-asked g c =
    record {
      plain = λ no. let bad : false ≡ true = rw no at c.if-not-nil.false in cc;
      repaired = λ yes. record { repaired = c.in-Ok.repaired; is_repaired = c.in-Ok.ensures.repaired; same = refl };
    }

pub returns-in-Ok-clause-silent : goal.returns-in-Ok-clause-silent
returns-in-Ok-clause-silent g c =
    elim c.if-not-is_empty.branch [
      | then-not-is_empty+in_ok-text-in-Ok w ↦
          inr (record {
            repaired = c.in-Ok.repaired;
            is_repaired = c.in-Ok.ensures.repaired;
            some = λ none.
                let count : length c.in-Ok.repaired.patches.items ≡ 0 = ap (λ (patches : List Patch). length patches) none in
                let empty : c.in-Ok.repaired.patches.len ≡ 0 = omega (arith, count, c.in-Ok.repaired.patches.ok.0) in
                let yes : c.is_empty.result ≡ true = c.is_empty.ensures ∙ ap (λ (n : ℕ). n == 0) empty in
                let no = w.if-not-is_empty.true in
                cc;
          })
      | else-not-is_empty w ↦ inl w.err-is
    ]
