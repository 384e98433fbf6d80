use Rattle.std.proofs.Common.{◌≡◌, ◌∙◌, ℕ, List, None, ap, subst, refl, arith}
use Rattle.sqz_damage.specs.declared.mend.damage.Damage.{Damage}
use Rattle.sqz_damage.specs.Damaged.{HasGaps, HasGapsIfAny, IsPlaceOfLoss, missing_bytes, restored}
use Rattle.sqz_damage.specs.Mended.{IsMended}
use Rattle.sqz_damage.specs.Soundness.{IsSound}
use Rattle.sqz_damage.proofs.mend.recovery.mend_damaged.Goals as goal
use Rattle.sqz_damage.proofs.mend.recovery.mend_damaged.Goals.{in-Some+in_ok-gaps-in-Some, in-None+in_ok-gaps-in-None}

pub returns : goal.returns
returns g c =
    let weak = c.args.weak in
    let file = c.args.file.items in
    let header = c.args.header in
    let missing = c.missing_bytes-missing.result in
    let place = c.in_ok-place.place in
    let gaps = c.match-place.gaps in
    let damage : Damage = record { gaps = gaps; missing = missing; place = place } in
    let bytes = c.in_ok-restored.ensures.bytes in
    let is_missing : missing ≡ missing_bytes file header =
    subst (λ (b : List ℕ). missing ≡ missing_bytes b header) c.deref.ensures.value c.missing_bytes-missing.ensures.missing in
    let is_place : IsPlaceOfLoss file header missing place =
    subst (λ (b : List ℕ). IsPlaceOfLoss b header missing place) c.deref-2.ensures.value c.in_ok-place.ensures in
    let are_gaps : HasGapsIfAny weak (restored file header missing place) header gaps.items =
    elim c.match-place.branch [
      | in-Some+in_ok-gaps-in-Some w ↦
          rw w.gaps-is
          (subst (λ (b : List ℕ). HasGapsIfAny weak b header w.in_ok-gaps-in-Some.gaps.items)
          (w.deref-in-Some.ensures.value ∙ bytes) w.in_ok-gaps-in-Some.ensures.gaps)
      | in-None+in_ok-gaps-in-None w ↦
          let same : restored file header missing place ≡ file = ap (restored file header missing) w.in-None.is in
          rw w.gaps-is
          (record {
            sound = λ sound. absurd (c.requires.unsound (subst (IsSound weak) same sound));
            unsound = λ no.
                subst (λ (b : List ℕ). HasGaps b header w.in_ok-gaps-in-None.gaps.items)
                (w.deref-in-None.ensures.value ∙ bytes) w.in_ok-gaps-in-None.ensures.gaps;
          })
    ] in
    record {
      header_is = refl;
      damage = record { missing = is_missing; place = is_place; gaps = are_gaps };
      read_as = record {
        whole = λ none.
            let at_end : place ≡ None = is_place.at_end (λ may. let some = may.some in let whole = none.complete in omega arith) in
            c.mended-bytes.ensures.whole none ∙ bytes ∙ ap (restored file header missing) at_end;
        mended = λ some.
            subst (λ (b : List ℕ). IsMended b header damage c.mended-bytes.result.items) bytes (c.mended-bytes.ensures.mended some);
      };
    }
