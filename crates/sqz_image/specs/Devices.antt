-- What contracts see of byte sources and sinks, and the effect of their calls on it.
use Rattle.std.specs.Prelude.{◌≡◌, ◌⊎◌, ℕ, ◌+◌, ◌-◌, ◌^◌, ◌<◌, ◌≤◌, nat_lt, min, Bool, true, false, ◌==◌, ◌&&◌}
use Rattle.std.specs.Prelude.{if◌then◌else◌, List, ◌++◌, length, take, Option, Result, Ok, Err}
use Rattle.std.specs.Io.KnownBytes.{Keeps, Appends, Consumes, IsAtEnd}
use Rattle.sqz_image.specs.declared.device.DeviceFault.{DeviceFault}
use Rattle.sqz_image.specs.declared.fault.Fault.{Fault}
use Rattle.sqz_image.specs.declared.fault.Fault.TheVariants.{OutOfMemory, ReadFailed, WriteFailed}

-- the bytes that a source has left, if contracts see them; the number of its reads; the number of
-- reads that returned 0 for a non-empty piece; and whether it failed
pub record SourceState : Type 0 where
  pub left : Option (List ℕ)
  pub reads : ℕ
  pub empty_reads : ℕ
  pub failed : Bool

-- a source that has not been read yet, with these bytes left
abbrev pub new_source : Option (List ℕ) → SourceState
new_source left = record { left = left; reads = 0; empty_reads = 0; failed = false }

-- the bytes that a sink holds, if contracts see them; the number of its writes; whether it took
-- bytes that no flush has passed on; and whether it failed
pub record SinkState : Type 0 where
  pub contents : Option (List ℕ)
  pub writes : ℕ
  pub unflushed : Bool
  pub failed : Bool

-- the count after one more call; a count saturates at 2 ^ 64 - 1
abbrev pub one_more : ℕ → ℕ
one_more count = min (count + 1) (2 ^ 64 - 1)

-- one read into a piece, whose front then holds what was read; a source that promises to give all
-- its bytes returns 0 for a non-empty piece only if it has none left
abbrev pub IsRead : Bool → SourceState → SourceState → List ℕ → Result ℕ DeviceFault → Type 0
IsRead gives_all old new piece (Ok count) =
    (old.failed ≡ false) × (new.failed ≡ false) × (count ≤ length piece)
    × Consumes old.left new.left (take count piece) × (gives_all ≡ true → count ≡ 0 → 0 < length piece → IsAtEnd new.left)
    × (new.reads ≡ one_more old.reads)
    × (new.empty_reads ≡ (if count == 0 && nat_lt 0 (length piece) then one_more old.empty_reads else old.empty_reads))
IsRead gives_all old new piece (Err fault) =
    (new.failed ≡ true) × Keeps old.left new.left × (new.reads ≡ one_more old.reads) × (new.empty_reads ≡ old.empty_reads)

-- one write of a piece: some of it, from the front on, was taken
abbrev pub IsWrite : SinkState → SinkState → List ℕ → Result ℕ DeviceFault → Type 0
IsWrite old new piece (Ok count) =
    (old.failed ≡ false) × (new.failed ≡ false) × (count ≤ length piece) × (0 < length piece → 0 < count)
    × Appends old.contents new.contents (take count piece)
    × (new.writes ≡ one_more old.writes)
    × (new.unflushed ≡ (if count == 0 then old.unflushed else true))
IsWrite old new piece (Err fault) =
    (new.failed ≡ true) × Keeps old.contents new.contents × (new.writes ≡ one_more old.writes) × (new.unflushed ≡ old.unflushed)

-- a flush; it does not count as a write
abbrev pub IsFlush : {T : Type 0} → SinkState → SinkState → Result T DeviceFault → Type 0
IsFlush old new (Ok _) =
    (old.failed ≡ false) × (new.failed ≡ false) × Keeps old.contents new.contents × (new.writes ≡ old.writes) × (new.unflushed ≡ false)
IsFlush old new (Err fault) =
    (new.failed ≡ true) × Keeps old.contents new.contents × (new.writes ≡ old.writes) × (new.unflushed ≡ old.unflushed)

-- the greatest number of reads or writes that one call of this crate makes
abbrev pub turn_limit : ℕ
turn_limit = 2 ^ 32

-- the count after `turns` more calls
abbrev pub count_after : ℕ → ℕ → ℕ
count_after count turns = if turns == 0 then count else min (count + turns) (2 ^ 64 - 1)

-- the counts before and after a loop of calls that did not do all its work: it made as many calls
-- as the limit allows, or fewer if its device failed
pub record StopsWithin (limit : ℕ) (failed : Bool) (old new : ℕ) : Type 0 where
  pub turns : ℕ
  pub within : turns ≤ limit
  pub counted : new ≡ count_after old turns
  pub cause : (failed ≡ true) ⊎ (turns ≡ limit)

-- the source gave these bytes before the first read that returned 0; if it promises to give all
-- its bytes, it has none left
pub record ReadsWhole (gives_all : Bool) (old new : SourceState) (file : List ℕ) : Type 0 where
  pub bytes : Consumes old.left new.left file
  pub end : new.empty_reads ≡ one_more old.empty_reads
  pub at_end : gives_all ≡ true → IsAtEnd new.left
  pub started_sound : old.failed ≡ false
  pub sound : new.failed ≡ false
  pub below_limit : new.reads < old.reads + turn_limit

-- the source has not failed, is below the limit, and has not reached its end
pub record IsUnfinished (old new : SourceState) : Type 0 where
  pub sound : new.failed ≡ false
  pub below_limit : new.reads < old.reads + turn_limit
  pub no_end : new.empty_reads ≡ old.empty_reads

-- why not everything was read; bytes from the front of what was left may be lost
abbrev pub ReadStops : SourceState → SourceState → Fault → Type 0
ReadStops old new fault =
    ((file : List ℕ) × Consumes old.left new.left file)
    × (((fault ≡ OutOfMemory) × IsUnfinished old new) ⊎ ((fault ≡ ReadFailed) × StopsWithin turn_limit new.failed old.reads new.reads))

-- the sink took these bytes and nothing else, and was flushed
pub record WritesWhole (old new : SinkState) (bytes : List ℕ) : Type 0 where
  pub bytes_added : Appends old.contents new.contents bytes
  pub started_sound : old.failed ≡ false
  pub sound : new.failed ≡ false
  pub flushed : new.unflushed ≡ false
  pub below_limit : new.writes < old.writes + turn_limit

-- why not everything was written; some of the bytes, from the front on, perhaps all, were taken
pub record WriteStops (old new : SinkState) (bytes : List ℕ) (fault : Fault) : Type 0 where
  pub front : List ℕ
  pub rest : List ℕ
  pub of_bytes : bytes ≡ front ++ rest
  pub bytes_added : Appends old.contents new.contents front
  pub named : fault ≡ WriteFailed
  pub counted : StopsWithin turn_limit new.failed old.writes new.writes

-- the sink took these bytes and nothing else, in `turns` - `left` writes, and some turns are left
pub record Sends (old new : SinkState) (bytes : List ℕ) (turns left : ℕ) : Type 0 where
  pub bytes_added : Appends old.contents new.contents bytes
  pub failed : new.failed ≡ old.failed
  pub some_left : 0 < left
  pub none_won : left ≤ turns
  pub counted : new.writes ≡ count_after old.writes (turns - left)

-- why not everything was sent; some of the bytes, from the front on, perhaps all, were taken
pub record SendStops (old new : SinkState) (bytes : List ℕ) (turns : ℕ) (fault : Fault) : Type 0 where
  pub front : List ℕ
  pub rest : List ℕ
  pub of_bytes : bytes ≡ front ++ rest
  pub bytes_added : Appends old.contents new.contents front
  pub named : fault ≡ WriteFailed
  pub counted : StopsWithin turns new.failed old.writes new.writes
