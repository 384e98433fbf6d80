use Rattle.std.proofs.Common.{◌≡◌, ◌+◌, ◌*◌, ◌++◌, ◌<◌, ◌≤◌, ℕ, List, length, take, drop, replicate, refl, ap, sym, subst, arith}
use Rattle.std.proofs.lemmas.List.{length-take-le, take-append-drop}
use Rattle.sqz_image.specs.File.{IsHeader, header_offset}
use Rattle.sqz_damage.specs.Damaged.{HasSoundWords, IsPlaceOfLoss, words_there}
use Rattle.sqz_damage.proofs.DataLemmas.{IsPlaceOfLoss-within}
use Rattle.sqz_damage.proofs.HeaderLemmas.{IsHeader-other}
use Rattle.std.proofs.lemmas.Result.{IfOk-weaker}
use Rattle.sqz_damage.proofs.mend.restoring.restored.Goals as goal
use Rattle.sqz_damage.proofs.mend.restoring.restored.Goals.{After-deref-2}

-- the zeros are put into the data
at_inside : (c : After-deref-2) → c.of.result.start + 4 * c.in-Some.word ≤ length c.deref-2.result.now
at_inside c =
    let file = c.args.file.items in
    let header = c.args.header.now in
    let inside : c.in-Some.word < length (words_there file header) =
    IsPlaceOfLoss-within file header c.args.missing c.in-Some.word
    (subst (IsPlaceOfLoss file header c.args.missing) c.in-Some.is c.requires.place)
    (λ loss. c.loss_within.ensures _ _ _ _ loss) in
    omega (
      arith,
      inside,
      c.of.ensures.end,
      c.of.ensures.inside,
      ap (λ (bytes : List ℕ). length (words_there bytes header)) c.deref.ensures.value,
      ap (length {A = ℕ}) c.deref.ensures.value,
      ap (length {A = ℕ}) c.deref-2.ensures.value,
    )

pub with_zeros-requires : goal.with_zeros-requires
with_zeros-requires c = at_inside (goal.at.with_zeros-requires c).After-deref-2

-- the header stays
sound_still : (c : After-deref-2) (zeros : List ℕ)
    → let at = c.of.result.start + 4 * c.in-Some.word in
    HasSoundWords (take at c.deref-2.result.now ++ (zeros ++ drop at c.deref-2.result.now)) c.args.header.now
sound_still c zeros =
    let file = c.deref-2.result.now in
    let header = c.args.header.now in
    let at = c.of.result.start + 4 * c.in-Some.word in
    let parts : take at file ++ drop at file ≡ file = take-append-drop at file in
    let is : IsHeader (take at file ++ drop at file) header =
    subst (λ (bytes : List ℕ). IsHeader bytes header) (sym parts)
    (subst (λ (bytes : List ℕ). IsHeader bytes header) (sym c.deref-2.ensures.value) c.requires.sound.is_header) in
    let long : header_offset (take at file ++ drop at file) + 64 ≤ length (take at file) =
    omega (arith, length-take-le at file (at_inside c), is.offset, c.of.ensures.start) in
    record {
      is_header = IsHeader-other (take at file) (drop at file) (zeros ++ drop at file) header.order long is.order header refl is;
      sound = c.requires.sound.sound;
    }

pub returns-clause-sound : goal.returns-clause-sound
returns-clause-sound c =
    let at = (goal.at.returns-clause-sound c).After-deref-2 in
    IfOk-weaker c.with_zeros.result _ _
    (λ bytes is. subst (λ (b : List ℕ). HasSoundWords b c.args.header.now) (sym is) (sound_still at (replicate c.args.missing 0)))
    c.with_zeros.ensures
