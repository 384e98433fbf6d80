-- What is printed of images that are not sound or large, or of which something was skipped.
-- Serves `answer_about`, `compare`, `answer_each`, `check_one` and `mend`.
use Rattle.std.proofs.Common.{◌≡◌, ◌≢◌, ◌⊎◌, ◌<◌, ◌∙◌, ℕ, List, Bool, true, false, Option, None, refl, sym, subst, inl, inr}
use Rattle.sqz_image.specs.Objects.{Memory, SavedImage, object_count}
use Rattle.sqz_trace.specs.declared.weak.Weak.{Weak}
use Rattle.sqz_trace.specs.Faults.{first_fault}
use Rattle.sqz_trace.specs.Reachability.{IsReachability}
use Rattle.sqz_look_files.specs.declared.loading.Loaded.TheVariants.{Image}
use Rattle.sqz_look_files.specs.declared.session.ReadFile.TheVariants as read
use Rattle.sqz_look_files.specs.declared.session.ReadImage.{ReadImage}
use Rattle.sqz_look_files.specs.Checks.{IsLoaded, IsUnsound, ReadsSome}
use Rattle.sqz_look_files.specs.Damaged.{IsReadAs, IsReadImage}
use Rattle.sqz_look_files.specs.Warnings.{IsSilent, most_objects}

module _ {F : Type 0} (left : F → Option (List ℕ)) (weak : Weak) (past : Bool) where
  unsound : (image : SavedImage) (memory : Memory) (policy : Weak) (marks : List Bool) → IsLoaded left (Image image)
      → image.memory ≡ memory → weak ≡ policy → ∥ IsReachability memory policy marks ∥₁
      → first_fault memory policy marks ≢ None → ReadsSome left (IsUnsound weak)
  unsound image memory policy marks loaded same_memory same_policy reachable faulty =
      let Marked : Memory → Weak → Type 0 = λ m p. ∥ IsReachability m p marks ∥₁ in
      let Says : Memory → Weak → Type 0 = λ m p. first_fault m p marks ≢ None in
      record {
        bytes = loaded.bytes;
        read = loaded.read;
        fact = inl (record {
          image = image;
          holds = loaded.held;
          marks = marks;
          reachable = subst (Marked image.memory) (sym same_policy) (subst (λ (m : Memory). Marked m policy) (sym same_memory) reachable);
          fault = subst (Says image.memory) (sym same_policy) (subst (λ (m : Memory). Says m policy) (sym same_memory) faulty);
        });
      }

  -- a warning of an image that was loaded
  IsSilent-loaded : {E : Type 0} (image : SavedImage) (memory : Memory) (policy : Weak) (marks : List Bool) (old new : E)
      → IsLoaded left (Image image) → memory ≡ image.memory → policy ≡ weak → ∥ IsReachability memory policy marks ∥₁
      → (new ≡ old) ⊎ (first_fault memory policy marks ≢ None) → IsSilent left weak past old new
  IsSilent-loaded image memory policy marks old new loaded same_memory same_policy reachable (inl same) = inl same
  IsSilent-loaded image memory policy marks old new loaded same_memory same_policy reachable (inr faulty) =
      inr (inl (inl (unsound image memory policy marks loaded (sym same_memory) (sym same_policy) reachable faulty)))

  -- what was printed of the damage of an image
  pub IsSilent-damage : {E : Type 0} (image : ReadImage) (old new : E) → IsReadAs left weak past old new (read.Image image) → IsSilent left weak past old new
  IsSilent-damage image old new (whole, damaged) = at image.is_whole refl
    where
      at : (is_whole : Bool) → image.is_whole ≡ is_whole → IsSilent left weak past old new
      at true is = inl (whole is).0
      at false is = inr (inl (inr (damaged is)))

  -- a warning of an image that was read before
  pub IsSilent-warned : {E : Type 0} (image : ReadImage) (memory : Memory) (policy : Weak) (marks : List Bool) (before after old new : E)
      → IsReadAs left weak past before after (read.Image image) → memory ≡ image.image.memory → policy ≡ weak
      → ∥ IsReachability memory policy marks ∥₁
      → (new ≡ old) ⊎ (first_fault memory policy marks ≢ None) → IsSilent left weak past old new
  IsSilent-warned image memory policy marks before after old new (whole, damaged) same_memory same_policy reachable said =
      at image.is_whole refl
    where
      at : (is_whole : Bool) → image.is_whole ≡ is_whole → IsSilent left weak past old new
      at true is = IsSilent-loaded image.image memory policy marks old new (whole is).1 same_memory same_policy reachable said
      at false is = inr (inl (inr (damaged is)))

  -- one warning after another
  pub IsSilent-then : {E : Type 0} (old mid new : E) → IsSilent left weak past old mid → IsSilent left weak past mid new
      → IsSilent left weak past old new
  IsSilent-then old mid new (inl same) (inl then) = inl (then ∙ same)
  IsSilent-then old mid new (inl same) (inr warned) = inr warned
  IsSilent-then old mid new (inr warned) later = inr warned

  -- what was printed of the damage of an image, and then a warning of it
  pub IsSilent-read : {E : Type 0} (image : ReadImage) (memory : Memory) (policy : Weak) (marks : List Bool) (old mid new : E)
      → IsReadAs left weak past old mid (read.Image image) → memory ≡ image.image.memory → policy ≡ weak
      → ∥ IsReachability memory policy marks ∥₁
      → (new ≡ mid) ⊎ (first_fault memory policy marks ≢ None) → IsSilent left weak past old new
  IsSilent-read image memory policy marks old mid new was_read same_memory same_policy reachable said =
      IsSilent-then old mid new (IsSilent-damage image old mid was_read)
      (IsSilent-warned image memory policy marks old mid mid new was_read same_memory same_policy reachable said)

  -- a warning that an image is large, if there was one
  pub IsSilent-large : {E : Type 0} (image : ReadImage) (memory : Memory) (old new : E)
      → IsReadImage left weak past (read.Image image) → memory ≡ image.image.memory
      → (new ≡ old) ⊎ (most_objects < object_count memory) → IsSilent left weak past old new
  IsSilent-large image memory old new was_read same (inl silent) = inl silent
  IsSilent-large image memory old new was_read same (inr many) =
      inr (inr (inr (record {
        bytes = was_read.bytes;
        read = was_read.read;
        fact = record {
          image = image.image;
          is_image = was_read.fact;
          many = subst (λ (m : Memory). most_objects < object_count m) same many;
        };
      })))
