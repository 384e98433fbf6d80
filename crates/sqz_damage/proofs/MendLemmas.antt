-- What stays of bytes of which some were written anew.
-- Serves `mend`, `fill` and `mend_file`.
use Rattle.std.proofs.Common.{◌≡◌, ◌∙◌, ℕ, ◌+◌, ◌-◌, ◌≤◌, List, take, drop, sym, ap, subst, arith}
use Rattle.std.proofs.lemmas.List.{take-take, drop-take, drop-drop}
use Rattle.sqz_image.specs.declared.header.Header.{Header}
use Rattle.sqz_trace.specs.declared.weak.Weak.{Weak}
use Rattle.sqz_damage.specs.declared.mend.recovery.MendedFile.{MendedFile}
use Rattle.sqz_damage.specs.Damaged.{HasSoundWords, LacksData}
use Rattle.sqz_damage.specs.Mended.{between}
use Rattle.sqz_damage.specs.Recovery.{AreReadAs, IsMendedDamage, IsMendedFile}
use Rattle.sqz_damage.specs.Soundness.{IsSound}

module _ (new old : List ℕ) where
  -- bytes with the same front have the same bytes in it
  pub between-front : (start end front : ℕ) → end ≤ front → take front new ≡ take front old → between start end new ≡ between start end old
  between-front start end front inside same =
      ap (drop start) (sym (take-take end front new inside) ∙ ap (take end) same ∙ take-take end front old inside)

  -- a shorter front too
  pub take-front : (end front : ℕ) → end ≤ front → take front new ≡ take front old → take end new ≡ take end old
  take-front end front inside same =
      sym (take-take end front new inside) ∙ ap (take end) same ∙ take-take end front old inside

  -- a shorter end too
  pub drop-end : (from back : ℕ) → back ≤ from → drop back new ≡ drop back old → drop from new ≡ drop from old
  drop-end from back le same =
      let on : back + (from - back) ≡ from = omega arith in
      ap (λ (n : ℕ). drop n new) (sym on) ∙ sym (drop-drop (from - back) back new)
      ∙ ap (drop (from - back)) same ∙ drop-drop (from - back) back old ∙ ap (λ (n : ℕ). drop n old) on

  -- bytes with the same end have the same bytes in it
  pub between-back : (start end back : ℕ) → back ≤ start → start ≤ end → drop back new ≡ drop back old
      → between start end new ≡ between start end old
  between-back start end back inside ordered same =
      let on : start + (end - start) ≡ end = omega arith in
      let part = λ (bytes : List ℕ).
      ap (λ (n : ℕ). drop start (take n bytes)) (sym on) ∙ drop-take start (end - start) bytes
      in
      part new ∙ ap (take (end - start)) (drop-end start back inside same) ∙ sym (part old)

-- ---- a file that is not sound

pub IsMendedFile-damaged : (weak : Weak) (file : List ℕ) (header : Header) (mended : MendedFile) → HasSoundWords file header
    → (IsSound weak file → ⊥) → IsMendedDamage weak file header mended → IsMendedFile weak file mended
IsMendedFile-damaged weak file header mended has unsound is =
    record {
      header = subst (HasSoundWords file) (sym is.header_is) has;
      damage = record {
        sound = λ sound. absurd (unsound sound);
        unsound = λ no. subst (λ (h : Header). LacksData weak file h mended.damage) (sym is.header_is) is.damage;
      };
      read_as = subst (λ (h : Header). AreReadAs file h mended.damage mended.bytes.items) (sym is.header_is) is.read_as;
    }
