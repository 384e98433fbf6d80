use Rattle.std.proofs.Common.{List, ℕ, ◌≡◌, Some, refl, sym, subst, ◌∙◌, inl, inr}
use Rattle.sqz_image.specs.File.{IsHeader}
use Rattle.sqz_image.specs.Refusals.{words_fault}
use Rattle.sqz_damage.specs.Damaged.{HasSoundWords}
use Rattle.sqz_damage.specs.Soundness.{HasFault}
use Rattle.sqz_damage.proofs.DataLemmas.{file_fault-words}
use Rattle.sqz_damage.proofs.MendLemmas.{IsMendedFile-damaged}
use Rattle.sqz_damage.proofs.SoundnessLemmas.{HasFault-unsound}
use Rattle.sqz_damage.proofs.mend.recovery.mend_file.Goals as goal

pub returns-in-Some-clause-stopped : goal.returns-in-Some-clause-stopped
returns-in-Some-clause-stopped g c =
    let file = c.args.file.items in
    let header = c.in-Ok.header in
    let is : IsHeader file header =
    subst (λ (bytes : List ℕ). IsHeader bytes header) c.deref.ensures.value c.in-Ok.ensures.header in
    let bad : words_fault header.words ≡ Some c.in-Some.fault = sym c.words_fault.ensures ∙ c.in-Some.is in
    record {
      is_unread = record {
        bytes = refl;
        header = is;
        no_header = tt;
        refused = inr (inl (file_fault-words file header c.in-Some.fault is bad));
      };
      bad = inr (header, is, bad);
    }

pub returns-in_ok-mend_damaged-in-Some-2-clause-mended : goal.returns-in_ok-mend_damaged-in-Some-2-clause-mended
returns-in_ok-mend_damaged-in-Some-2-clause-mended g c =
    let file = c.args.file.items in
    let header = c.in-Ok.header in
    let mended = c.in_ok-mend_damaged-in-Some-2.ensures in
    let sound : HasSoundWords file header =
    record {
      is_header = subst (λ (bytes : List ℕ). IsHeader bytes header) c.deref.ensures.value c.in-Ok.ensures.header;
      sound = sym c.words_fault.ensures ∙ c.in_default.is;
    } in
    let fault : HasFault c.args.weak file c.in-Some-2.field-0 =
    subst (λ (bytes : List ℕ). HasFault c.args.weak bytes c.in-Some-2.field-0) c.deref-2.ensures.value
    (rw c.in-Some-2.is at c.in_ok-fault_of.ensures) in
    IsMendedFile-damaged c.args.weak file header c.in_ok-mend_damaged-in-Some-2.field-0 sound
    (HasFault-unsound c.args.weak file c.in-Some-2.field-0 fault) mended

pub returns-in_ok-mend_damaged-in-Some-2-clause-unharmed : goal.returns-in_ok-mend_damaged-in-Some-2-clause-unharmed
returns-in_ok-mend_damaged-in-Some-2-clause-unharmed g c sound =
    let file = c.args.file.items in
    let fault : HasFault c.args.weak file c.in-Some-2.field-0 =
    subst (λ (bytes : List ℕ). HasFault c.args.weak bytes c.in-Some-2.field-0) c.deref-2.ensures.value
    (rw c.in-Some-2.is at c.in_ok-fault_of.ensures) in
    absurd (HasFault-unsound c.args.weak file c.in-Some-2.field-0 fault sound)

pub mend_damaged-requires-clause-unsound : goal.mend_damaged-requires-clause-unsound
mend_damaged-requires-clause-unsound g c κs within =
    HasFault-unsound c.args.weak c.args.file.items c.in-Some-2.field-0
    (subst (λ (bytes : List ℕ). HasFault c.args.weak bytes c.in-Some-2.field-0) c.deref-2.ensures.value
    (rw c.in-Some-2.is at c.in_ok-fault_of.ensures))
