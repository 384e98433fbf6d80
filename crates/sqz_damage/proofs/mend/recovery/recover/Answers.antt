use Rattle.std.proofs.Common.{List, ℕ, inl, inr}
use Rattle.sqz_trace.specs.declared.weak.Weak.{Weak}
use Rattle.sqz_damage.specs.declared.mend.recovery.RecoverError.{RecoverError}
use Rattle.sqz_damage.specs.declared.mend.recovery.RecoverError.TheVariants.{OutOfMemory, NoImage}
use Rattle.sqz_damage.specs.Recovery.{StopsMending, StopsRecovery}
use Rattle.sqz_damage.proofs.mend.recovery.recover.Goals as goal

-- what stops mending stops recovery
stops_too : (weak : Weak) (file : List ℕ) (error : RecoverError) → StopsMending file error → StopsRecovery weak file error
stops_too weak file OutOfMemory stops = tt
stops_too weak file (NoImage unread) bad = inl bad

pub returns-in-Err-clause-stopped : goal.returns-in-Err-clause-stopped
returns-in-Err-clause-stopped g c = stops_too c.args.weak c.args.file.items c.in-Err.error c.in-Err.ensures.stopped

pub returns-in-Err-image_or_file-clause-stopped : goal.returns-in-Err-image_or_file-clause-stopped
returns-in-Err-image_or_file-clause-stopped g c =
    let file = c.in-Ok.ensures.mended in
    inr (record {
      header = c.in-Ok.mended.header;
      is_header = file.header;
      damage = c.in-Ok.mended.damage;
      is_damage = file.damage;
      bytes = c.in-Ok.mended.bytes.items;
      read_as = file.read_as;
      is_unread = c.in-Err-image_or_file.ensures.refused;
    })
