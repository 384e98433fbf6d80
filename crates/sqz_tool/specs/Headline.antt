-- What a run does: it writes exactly the compaction of what it read, or returns why it did not.
use Rattle.std.specs.Prelude.{◌≡◌, ◌⊎◌, ℕ, ◌*◌, ◌^◌, ◌<◌, Bool, true, false, List, length, Option, Some, None}
use Rattle.std.specs.List.{concat}
use Rattle.std.specs.Io.KnownBytes.{Consumes}
use Rattle.sqz_image.specs.declared.fault.Fault.{Fault}
use Rattle.sqz_image.specs.declared.fault.Fault.TheVariants.{OutOfMemory, ReadFailed, WriteFailed, NoNil}
use Rattle.sqz_image.specs.File.{data_size, file_with}
use Rattle.sqz_image.specs.Objects.{Memory, SavedImage, object_count, file_bytes}
use Rattle.sqz_image.specs.Refusals.{file_fault}
use Rattle.sqz_image.specs.Devices.{SourceState, SinkState, ReadsWhole, IsUnfinished, ReadStops, WritesWhole, WriteStops}
use Rattle.sqz_trace.specs.declared.weak.Weak.{Weak}
use Rattle.sqz_trace.specs.Reachability.{IsReachability}
use Rattle.sqz_trace.specs.Live.{live, live_words}
use Rattle.sqz_trace.specs.Defects.{first_defect, lacks_nil}
use Rattle.sqz_census.specs.Census.{CensusRow, IsCensus}
use Rattle.sqz_census.specs.Text.{census_text}
use Rattle.sqz_tool.specs.declared.summary.Summary.{Summary}
use Rattle.sqz_tool.specs.Compacted.{compacted}
use Rattle.sqz_tool.specs.Verdict.{IsAccepted, IsRefused}
use Rattle.sqz_tool.specs.FixedPoint.{IsFixedPoint}

-- what a run did, in numbers
abbrev pub summary_of : SavedImage → List Bool → Summary
summary_of image marks =
    record {
      objects = object_count image.memory;
      kept = length (live image.memory marks);
      data_before = data_size image.header;
      data_after = 4 * live_words image.memory marks;
    }

-- the text of the census of the marked objects
pub record IsReport (memory : Memory) (weak : Weak) (marks : List Bool) (text : List ℕ) : Type 0 where
  pub rows : List CensusRow
  pub census : IsCensus memory weak marks rows
  pub text_is : text ≡ census_text rows

-- the text of the census, if one is asked for, and no text if none is
abbrev pub IsReportIfAsked : Bool → Memory → Weak → List Bool → Option (List ℕ) → Type 0
IsReportIfAsked true memory weak marks (Some text) = IsReport memory weak marks text
IsReportIfAsked false memory weak marks None = Unit {0}
IsReportIfAsked _ memory weak marks _ = ⊥

-- the address and the pieces are those of the image's compaction, these are the numbers, and this
-- is the text of its census
pub record IsCompaction (weak : Weak) (census : Bool) (image : SavedImage) (special : ℕ) (pieces : List (List ℕ)) (summary : Summary)
    (text : Option (List ℕ)) : Type 0 where
  pub marks : List Bool
  pub has_nil : lacks_nil image.memory weak ≡ false
  pub reachable : IsReachability image.memory weak marks
  pub sound : first_defect image.memory weak marks ≡ None
  pub bytes : file_with image.memory.order image.prefix image.header special pieces ≡ file_bytes (compacted image weak marks)
  pub few : length (concat pieces) < 2 ^ 30
  pub counted : summary ≡ summary_of image marks
  pub reported : IsReportIfAsked census image.memory weak marks text

-- there is no nil for weak slots
pub record LacksNilIn (weak : Weak) (image : SavedImage) (fault : Fault) : Type 0 where
  pub lacks : lacks_nil image.memory weak ≡ true
  pub refused : fault ≡ NoNil

-- this is the defect of the lowest reachable object that has one
pub record HasDefectIn (weak : Weak) (image : SavedImage) (fault : Fault) : Type 0 where
  pub marks : List Bool
  pub has_nil : lacks_nil image.memory weak ≡ false
  pub reachable : IsReachability image.memory weak marks
  pub defect : first_defect image.memory weak marks ≡ Some fault

-- what contracts see of the two sinks of a run: that of the image, and that of its census
pub record Sinks : Type 0 where
  pub image : SinkState
  pub census : SinkState

abbrev pub sinks : SinkState → SinkState → Sinks
sinks image census = record { image = image; census = census }

-- the sink of the census took its text and nothing else, or nothing if no census is asked for
abbrev pub Reports : Weak → Bool → Memory → List Bool → SinkState → SinkState → Type 0
Reports weak true memory marks old new = (text : List ℕ) × IsReport memory weak marks text × WritesWhole old new text
Reports weak false memory marks old new = new ≡ old

-- the source gave a file that is accepted, the sink of the image took its compaction and nothing
-- else, and these are the numbers; the written file holds exactly the compacted image, which is
-- accepted, has no unreachable objects, and is its own compaction
pub record Compacts (gives_all : Bool) (weak : Weak) (census : Bool) (from to : SourceState) (old new : Sinks)
    (summary : Summary) : Type 0 where
  pub file : List ℕ
  pub read : ReadsWhole gives_all from to file
  pub image : SavedImage
  pub marks : List Bool
  pub accepted : IsAccepted weak file image marks
  pub written : WritesWhole old.image new.image (file_bytes (compacted image weak marks))
  pub reported : Reports weak census image.memory marks old.census new.census
  pub counted : summary ≡ summary_of image marks
  pub fixed_point : IsFixedPoint weak (compacted image weak marks)

-- the source gave a file that is rejected with this fault, and the sinks are unchanged
pub record RefusesFile (gives_all : Bool) (weak : Weak) (fault : Fault) (from to : SourceState) (old new : Sinks) : Type 0 where
  pub file : List ℕ
  pub read : ReadsWhole gives_all from to file
  pub refused : IsRefused weak file fault
  pub untouched : new ≡ old

-- memory ran out while the source was read, which had not failed or reached its end, or after it
-- gave a file with a sound header; bytes from the front of what was left may be lost, and the
-- sinks are unchanged
pub record IsOutOfMemory (gives_all : Bool) (from to : SourceState) (old new : Sinks) : Type 0 where
  pub front : List ℕ
  pub taken : Consumes from.left to.left front
  pub cause : IsUnfinished from to ⊎ (ReadsWhole gives_all from to front × (file_fault front ≡ None))
  pub untouched : new ≡ old

-- the source stopped before the end, and the sinks are unchanged
pub record StopsReading (from to : SourceState) (old new : Sinks) : Type 0 where
  pub stops : ReadStops from to ReadFailed
  pub untouched : new ≡ old

-- the sink of the image took a prefix of what was to be written before it stopped, and that of the
-- census nothing
pub record StopsAtImage (bytes : List ℕ) (old new : Sinks) : Type 0 where
  pub stops : WriteStops old.image new.image bytes WriteFailed
  pub untouched : new.census ≡ old.census

-- the sink of the image took everything, and that of the census a prefix of its text before it
-- stopped
pub record StopsAtCensus (weak : Weak) (memory : Memory) (marks : List Bool) (bytes : List ℕ) (old new : Sinks) : Type 0 where
  pub written : WritesWhole old.image new.image bytes
  pub text : List ℕ
  pub report : IsReport memory weak marks text
  pub stops : WriteStops old.census new.census text WriteFailed

-- the source gave a file that is accepted, and its compaction, or the census if one is asked for,
-- was not written completely
pub record StopsWriting (gives_all : Bool) (weak : Weak) (census : Bool) (from to : SourceState) (old new : Sinks) : Type 0 where
  pub file : List ℕ
  pub read : ReadsWhole gives_all from to file
  pub image : SavedImage
  pub marks : List Bool
  pub accepted : IsAccepted weak file image marks
  pub stops : StopsAtImage (file_bytes (compacted image weak marks)) old new
      ⊎ ((census ≡ true) × StopsAtCensus weak image.memory marks (file_bytes (compacted image weak marks)) old new)

-- what a failed run did, by its fault; every other fault is the first that applies to the file
abbrev pub Refuses : Bool → Weak → Bool → SourceState → SourceState → Sinks → Sinks → Fault → Type 0
Refuses gives_all weak census from to old new OutOfMemory = IsOutOfMemory gives_all from to old new
Refuses gives_all weak census from to old new ReadFailed = StopsReading from to old new
Refuses gives_all weak census from to old new WriteFailed = StopsWriting gives_all weak census from to old new
Refuses gives_all weak census from to old new fault = RefusesFile gives_all weak fault from to old new
