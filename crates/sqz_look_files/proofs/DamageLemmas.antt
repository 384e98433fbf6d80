-- What is recovered of files, or that nothing can be.
-- Serves `recovered_of`, `read_past_damage` and `mend`.
use Rattle.std.proofs.Common.{◌≡◌, ◌≢◌, ◌⊎◌, ◌∙◌, ℕ, zero, suc, List, [], ◌∷◌, Option, refl, sym, subst, inl, inr}
use Rattle.sqz_image.specs.declared.fault.Fault.TheVariants.{OutOfMemory}
use Rattle.sqz_image.specs.declared.reading.UnreadFile.{UnreadFile}
use Rattle.sqz_image.specs.Refusals.{Holds}
use Rattle.sqz_image.specs.Unread.{IsUnread}
use Rattle.sqz_trace.specs.declared.weak.Weak.{Weak}
use Rattle.sqz_damage.specs.declared.gap.Gap.{Gap}
use Rattle.sqz_damage.specs.declared.mend.damage.Damage.{Damage}
use Rattle.sqz_damage.specs.declared.mend.recovery.MendedFile.{MendedFile}
use Rattle.sqz_damage.specs.declared.mend.recovery.Recovered.{Recovered}
use Rattle.sqz_damage.specs.Damaged.{IsNone}
use Rattle.sqz_damage.specs.Recovery.{IsMendedFile, IsNotRecovered}
use Rattle.sqz_look_files.specs.declared.loading.Loaded.TheVariants as whole
use Rattle.sqz_look_files.specs.declared.loading.LoadedPast.TheVariants as past
use Rattle.sqz_look_files.specs.Checks.{HoldsNone, IsLoaded, ReadsFile, ReadsSome}
use Rattle.sqz_look_files.specs.Damaged.{HoldsPast, IsDamaged, IsLoadedPast}

-- there is damage, or none
IsNone-or : (damage : Damage) → IsNone damage ⊎ (IsNone damage → ⊥)
IsNone-or damage = at damage.gaps.items refl damage.missing refl
  where
    at : (gaps : List Gap) → damage.gaps.items ≡ gaps → (missing : ℕ) → damage.missing ≡ missing
        → IsNone damage ⊎ (IsNone damage → ⊥)
    at [] no_gap zero complete = inl (record { no_gap = no_gap; complete = complete })
    at [] no_gap (suc missing) some = inr (λ none. let bad : suc missing ≡ 0 = sym some ∙ none.complete in cc)
    at (gap ∷ gaps) some missing is = inr (λ none. let bad : gap ∷ gaps ≡ [] = sym some ∙ none.no_gap in cc)

-- a file was read that holds no image
HoldsNone-unread : (bytes : List ℕ) (unread : UnreadFile) → unread.fault ≢ OutOfMemory → IsUnread bytes unread → HoldsNone bytes
HoldsNone-unread bytes unread known is = (
  unread.fault,
  elim is.refused [
    | inl (memory, sound) ↦ absurd (known memory)
    | inr unreadable ↦ unreadable
  ],
)

-- what is given back of a file is not read either
pub IsUnread-recovered : (weak : Weak) (bytes : List ℕ) (unread : UnreadFile) → IsNotRecovered weak bytes unread → IsUnread unread.bytes.items unread
IsUnread-recovered weak bytes unread (inl is) =
    subst (λ (b : List ℕ). IsUnread b unread) (sym is.is_unread.bytes) is.is_unread
IsUnread-recovered weak bytes unread (inr holds) =
    subst (λ (b : List ℕ). IsUnread b unread) (sym holds.is_unread.bytes) holds.is_unread

-- nothing was recovered of a file: it holds no image, or it is damaged
pub HoldsNone-recovered : (weak : Weak) (bytes : List ℕ) (unread : UnreadFile) → unread.fault ≢ OutOfMemory
    → IsNotRecovered weak bytes unread → HoldsNone bytes ⊎ IsDamaged weak bytes
HoldsNone-recovered weak bytes unread known (inl is) = inl (HoldsNone-unread bytes unread known is.is_unread)
HoldsNone-recovered weak bytes unread known (inr holds) = elim (IsNone-or holds.damage) [
  | inl none ↦
      inl (HoldsNone-unread bytes unread known (subst (λ (b : List ℕ). IsUnread b unread) (holds.read_as.whole none) holds.is_unread))
  | inr some ↦
      inr (record {
        header = holds.header;
        is_header = holds.is_header;
        damage = holds.damage;
        is_damage = holds.is_damage;
        some = some;
      })
]

module _ {F : Type 0} (left : F → Option (List ℕ)) (weak : Weak) (recovered : Recovered)
    (loaded : IsLoadedPast left weak (past.Image recovered)) where
  -- a file without damage holds the image itself
  pub IsLoaded-recovered : IsNone recovered.damage → IsLoaded left (whole.Image recovered.image)
  IsLoaded-recovered none = record {
    bytes = loaded.bytes;
    read = loaded.read;
    held = subst (λ (b : List ℕ). Holds b recovered.image) (loaded.held.read_as.whole none) loaded.held.holds;
  }

  -- the image is what the file holds past what cannot be read
  pub HoldsPast-recovered : ReadsSome left (λ bytes. HoldsPast weak bytes recovered.image)
  HoldsPast-recovered = record {
    bytes = loaded.bytes;
    read = loaded.read;
    fact = record { recovered = recovered; is_recovered = loaded.held; same = refl };
  }

  -- any other one is damaged
  pub ReadsSome-recovered : (IsNone recovered.damage → ⊥) → ReadsSome left (IsDamaged weak)
  ReadsSome-recovered some = record {
    bytes = loaded.bytes;
    read = loaded.read;
    fact = record {
      header = recovered.header;
      is_header = loaded.held.header;
      damage = recovered.damage;
      is_damage = loaded.held.damage;
      some = some;
    };
  }

-- a damaged file that was mended
pub ReadsSome-mended : {F : Type 0} (left : F → Option (List ℕ)) (weak : Weak) (bytes : List ℕ) (mended : MendedFile) → ReadsFile left bytes
    → IsMendedFile weak bytes mended → (IsNone mended.damage → ⊥) → ReadsSome left (IsDamaged weak)
ReadsSome-mended left weak bytes mended read is some = record {
  bytes = bytes;
  read = read;
  fact = record {
    header = mended.header;
    is_header = is.header;
    damage = mended.damage;
    is_damage = is.damage;
    some = some;
  };
}
