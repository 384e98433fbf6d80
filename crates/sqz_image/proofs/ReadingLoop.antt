-- A loop of reads: what it has read so far, and how it ends.
-- Serves `read_whole::read`.
use Rattle.std.proofs.Common.{◌≡◌, Bool, ℕ, ◌+◌, ◌<◌, arith, List, ◌++◌, take, Ok, Err, Result, ap, ◌∙◌, sym, refl, inl, inr}
use Rattle.std.proofs.Common.{◌⊎◌, true}
use Rattle.std.specs.Io.KnownBytes.{Consumes}
use Rattle.std.proofs.KnownBytes.{Consumes-trans, Consumes-kept}
use Rattle.sqz_image.specs.declared.device.DeviceFault.{DeviceFault}
use Rattle.sqz_image.specs.declared.fault.Fault.TheVariants.{OutOfMemory, ReadFailed}
use Rattle.sqz_image.specs.Fronts.{BeginsNoImage, ReadsFront}
use Rattle.sqz_image.specs.Devices.{SourceState, IsRead, IsUnfinished, one_more, turn_limit, count_after, StopsWithin, ReadStops}
use Rattle.std.proofs.lemmas.Bool.{ne_eqb}
use Rattle.sqz_image.proofs.Turns.{one_more-count_after, count_after-lt}

-- this many reads gave these bytes, each of them some
pub record HasRead (old now : SourceState) (file : List ℕ) (turns : ℕ) : Type 0 where
  pub bytes : Consumes old.left now.left file
  pub none_empty : now.empty_reads ≡ old.empty_reads
  pub failed : now.failed ≡ old.failed
  pub counted : now.reads ≡ count_after old.reads turns

module _ (gives_all : Bool) (old now new : SourceState) (file piece : List ℕ) (turns : ℕ) (so_far : HasRead old now file turns) where
  counted_more : new.reads ≡ one_more now.reads → new.reads ≡ count_after old.reads (turns + 1)
  counted_more e = e ∙ ap one_more so_far.counted ∙ one_more-count_after old.reads turns

  -- the calls so far and one more
  stops : (cause : (new.failed ≡ true) ⊎ (turns + 1 ≡ turn_limit)) → new.reads ≡ one_more now.reads → turns < turn_limit
      → StopsWithin turn_limit new.failed old.reads new.reads
  stops cause counted some =
      record { turns = turns + 1; within = omega arith; counted = counted_more counted; cause = cause }

  -- a read failed
  pub ReadStops-failed : (fault : DeviceFault) → IsRead gives_all now new piece (Err fault) → turns < turn_limit → ReadStops old new ReadFailed
  ReadStops-failed fault read some =
      ((file, Consumes-kept old.left now.left new.left file so_far.bytes read.1), inr (refl, stops (inl read.0) read.2 some))

  -- the last turn was taken
  pub ReadStops-limit : (result : Result ℕ DeviceFault)
      → IsRead gives_all now new piece result → turns + 1 ≡ turn_limit → ReadStops old new ReadFailed
  ReadStops-limit (Ok count) read all = (
    (file ++ take count piece, Consumes-trans old.left now.left new.left file (take count piece) so_far.bytes read.3),
    inr (refl, stops (inr all) read.5 (omega arith)),
  )
  ReadStops-limit (Err fault) read all = ReadStops-failed fault read (omega arith)

  -- the bytes so far and those of one more read
  more_bytes : (count : ℕ) → IsRead gives_all now new piece (Ok count) → Consumes old.left new.left (file ++ take count piece)
  more_bytes count read = Consumes-trans old.left now.left new.left file (take count piece) so_far.bytes read.3

  -- a read gave some bytes, and turns are left
  is_unfinished : (count : ℕ) → IsRead gives_all now new piece (Ok count) → 0 < count → turns + 1 < turn_limit → IsUnfinished old new
  is_unfinished count read some left =
      let no_end : new.empty_reads ≡ now.empty_reads = read.6 ∙ rw (ne_eqb count 0 (λ e. omega arith)) refl in
      let counted : new.reads ≡ count_after old.reads (turns + 1) = counted_more read.5 in
      record {
        sound = read.1;
        below_limit = rw counted (count_after-lt old.reads (turns + 1) left);
        no_end = no_end ∙ so_far.none_empty;
      }

  -- there is no memory for what was read
  pub ReadStops-memory : (count : ℕ) → IsRead gives_all now new piece (Ok count) → 0 < count → turns + 1 < turn_limit → ReadStops old new OutOfMemory
  ReadStops-memory count read some left =
      ((file ++ take count piece, more_bytes count read), inl (refl, is_unfinished count read some left))

  -- what was read is the beginning of no image
  pub ReadsFront-read : (count : ℕ) → IsRead gives_all now new piece (Ok count) → 0 < count → turns + 1 < turn_limit
      → BeginsNoImage (file ++ take count piece) → ReadsFront old new (file ++ take count piece)
  ReadsFront-read count read some left none = record {
    bytes = more_bytes count read;
    started_sound = sym so_far.failed ∙ read.0;
    unfinished = is_unfinished count read some left;
    no_image = none;
  }
