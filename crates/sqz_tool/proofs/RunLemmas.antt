-- From what a run did, and what stopped it, to the run's contract.
-- Serves `compact_files::compact` and `running::run_observed`.
use Rattle.std.proofs.Common.{◌≡◌, ◌≢◌, ℕ, ◌≤◌, ◌⊎◌, Bool, true, false, List, Option, Some, None, option_map, refl, sym, subst, arith, inl, inr}
use Rattle.std.specs.Prelude.{IsSomeAnd, MatchOption}
use Rattle.sqz_object.specs.declared.chunk.ChunkFault.{ChunkFault}
use Rattle.sqz_object.specs.declared.chunk.ChunkFault.TheVariants.{ZeroSize, HeaderMismatch, Overrun}
use Rattle.sqz_image.specs.declared.fault.Fault.{Fault}
use Rattle.sqz_image.specs.declared.fault.Fault.TheVariants.{OutOfMemory, ReadFailed, WriteFailed, BadWorkers, BadCut}
use Rattle.sqz_image.specs.File.{AreBytes, file_with}
use Rattle.sqz_image.specs.Objects.{Memory, SavedImage, file_bytes}
use Rattle.sqz_image.specs.Numbers.{number_of_fault}
use Rattle.sqz_image.specs.Refusals.{file_fault, Holds, IsUnreadable, refusal_of}
use Rattle.sqz_image.specs.Devices.{SourceState, SinkState, new_source, ReadsWhole, ReadStops, WritesWhole, WriteStops}
use Rattle.sqz_image.proofs.ReadingLemmas.{file_fault_low}
use Rattle.sqz_trace.specs.declared.weak.Weak.{Weak}
use Rattle.sqz_trace.proofs.DefectLemmas.{IsOfImage, first_defect-number}
use Rattle.sqz_tool.specs.declared.summary.Summary.{Summary}
use Rattle.sqz_tool.specs.Compacted.{compacted}
use Rattle.sqz_tool.specs.Verdict.{IsAccepted, IsRefused}
use Rattle.sqz_cli.specs.Exits.{exit_of}
use Rattle.sqz_tool.specs.Headline.{IsReport, IsReportIfAsked, IsCompaction, LacksNilIn, HasDefectIn, Sinks, sinks, Reports}
use Rattle.sqz_tool.specs.Headline.{Compacts, RefusesFile}
use Rattle.sqz_tool.specs.Headline.{StopsAtImage, StopsAtCensus, Refuses}
use Rattle.sqz_tool.proofs.FixedPointLemmas.{IsFixedPoint-accepted}
use Rattle.clap.specs.Words.{Text}
use Rattle.sqz_tool.specs.FileRuns.{Views, RunsFiles}
use Rattle.sqz_cli.specs.OutputFiles.{new_output}

-- ---- the refusals of a file

-- those of a file that cannot be read have the numbers up to 14
unreadable-number : (file : List ℕ) (fault : Fault) → IsUnreadable file fault → number_of_fault fault ≤ 14
unreadable-number file fault (inl refused) = let le = file_fault_low file fault refused in omega arith
unreadable-number file fault (inr (inl unreadable)) =
    rw unreadable.unreadable.refused (refusal_of-number unreadable.unreadable.reason unreadable.unreadable.word) where
      refusal_of-number : (reason : ChunkFault) (word : ℕ) → number_of_fault (refusal_of reason word) ≤ 14
      refusal_of-number ZeroSize word = omega arith
      refusal_of-number HeaderMismatch word = omega arith
      refusal_of-number Overrun word = omega arith
unreadable-number file fault (inr (inr lacks)) = rw lacks.refused (omega arith)

-- all have numbers of refusals of an image
pub IsRefused-number : (weak : Weak) (file : List ℕ) (fault : Fault) → IsRefused weak file fault → IsOfImage (number_of_fault fault)
IsRefused-number weak file fault (inl unreadable) = inl (unreadable-number file fault unreadable)
IsRefused-number weak file fault (inr (inl lacks)) = rw lacks.refused (inr (omega arith))
IsRefused-number weak file fault (inr (inr defect)) = first_defect-number defect.image.memory weak defect.marks fault defect.defect

-- ---- the refusals of a run

-- a number between those of an image's refusals is none of theirs
none_between : (number : ℕ) → 15 ≤ number → number ≤ 19 → IsOfImage number → ⊥
none_between number low high (inl le) = absurd (omega arith)
none_between number low high (inr ge) = absurd (omega arith)

module _ (gives_all : Bool) (weak : Weak) (census : Bool) (from to : SourceState) (old new : Sinks) where
  -- those of a file are none of memory or of a device
  file_refuses : (fault : Fault) → IsOfImage (number_of_fault fault) → RefusesFile gives_all weak fault from to old new
      → Refuses gives_all weak census from to old new fault
  file_refuses OutOfMemory of r = absurd (none_between 15 (omega arith) (omega arith) of)
  file_refuses ReadFailed of r = absurd (none_between 16 (omega arith) (omega arith) of)
  file_refuses WriteFailed of r = absurd (none_between 17 (omega arith) (omega arith) of)
  file_refuses _ of r = r

  -- no refusal of a run is one of the command line's words
  pub Refuses-exit : (fault : Fault) → Refuses gives_all weak census from to old new fault → exit_of fault ≢ 2
  Refuses-exit BadWorkers r = absurd (none_between 18 (omega arith) (omega arith) (IsRefused-number weak r.file BadWorkers r.refused))
  Refuses-exit BadCut r = absurd (none_between 19 (omega arith) (omega arith) (IsRefused-number weak r.file BadCut r.refused))
  Refuses-exit _ r = λ e. absurd (omega (arith, e))

  module _ (fault : Fault) where
    -- the source stopped before the end, or memory was refused
    pub refuses_reading : new ≡ old → ReadStops from to fault → Refuses gives_all weak census from to old new fault
    refuses_reading untouched ((front, taken), inl (memory, unfinished)) =
        subst (Refuses gives_all weak census from to old new) (sym memory)
        (record { front = front; taken = taken; cause = inl unfinished; untouched = untouched })
    refuses_reading untouched (read, inr (named, cause)) =
        subst (Refuses gives_all weak census from to old new) (sym named)
        (record { stops = (read, inr (refl, cause)); untouched = untouched })

    module _ (file : List ℕ) where
      -- memory was refused once a file with a sound header was read
      refuses_memory : new ≡ old → ReadsWhole gives_all from to file → fault ≡ OutOfMemory → file_fault file ≡ None
          → Refuses gives_all weak census from to old new fault
      refuses_memory untouched read memory sound =
          subst (Refuses gives_all weak census from to old new) (sym memory)
          (record { front = file; taken = read.bytes; cause = inr (read, sound); untouched = untouched })

      -- the file is refused
      refuses_for : new ≡ old → ReadsWhole gives_all from to file → IsRefused weak file fault → Refuses gives_all weak census from to old new fault
      refuses_for untouched read refused =
          file_refuses fault (IsRefused-number weak file fault refused)
          (record { file = file; read = read; refused = refused; untouched = untouched })

      -- no image was read of the file
      pub refuses_file : new ≡ old → ReadsWhole gives_all from to file
          → ((fault ≡ OutOfMemory) × (file_fault file ≡ None)) ⊎ IsUnreadable file fault → Refuses gives_all weak census from to old new fault
      refuses_file untouched read (inl (memory, sound)) = refuses_memory untouched read memory sound
      refuses_file untouched read (inr unreadable) = refuses_for untouched read (inl unreadable)

      -- the image that was read was not compacted
      pub refuses_image : (image : SavedImage) → new ≡ old → ReadsWhole gives_all from to file → Holds file image
          → (fault ≡ OutOfMemory) ⊎ LacksNilIn weak image fault ⊎ HasDefectIn weak image fault → Refuses gives_all weak census from to old new fault
      refuses_image image untouched read holds (inl memory) = refuses_memory untouched read memory holds.parts.sound
      refuses_image image untouched read holds (inr (inl lacks)) =
          refuses_for untouched read
          (inr (inl (record { image = image; holds = holds; lacks = lacks.lacks; refused = lacks.refused })))
      refuses_image image untouched read holds (inr (inr defect)) =
          refuses_for untouched read
          (inr (inr (record {
            image = image;
            marks = defect.marks;
            holds = holds;
            has_nil = defect.has_nil;
            reachable = defect.reachable;
            defect = defect.defect;
          })))

-- ---- an image that was compacted

-- a text of a census was made only if one is asked for
module _ {T : Type 0} (items : T → List ℕ) (memory : Memory) (weak : Weak) (marks : List Bool) where
  report_asked : (asked : Bool) (text : Option T) (P : T → Type 0) → IsReportIfAsked asked memory weak marks (option_map items text)
      → IsSomeAnd text P → (asked ≡ true) × ((t : T) × IsReport memory weak marks (items t) × P t)
  report_asked true (Some t) P report p = (refl, (t, report, p))
  report_asked false (Some t) P report p = absurd report
  report_asked true None P report p = absurd report
  report_asked false None P report p = absurd p

  -- what was reported
  reports : (asked : Bool) (text : Option T) (old new : SinkState) → IsReportIfAsked asked memory weak marks (option_map items text)
      → MatchOption text (new ≡ old) (λ t. WritesWhole old new (items t)) → Reports weak asked memory marks old new
  reports true (Some t) old new report whole = (items t, report, whole)
  reports false None old new report same = same
  reports true None old new report same = absurd report
  reports false (Some t) old new report whole = absurd report

module _ (gives_all : Bool) (weak : Weak) (census : Bool) (from to : SourceState) (old new : Sinks) (file : List ℕ) (image : SavedImage)
    (special : ℕ) (pieces : List (List ℕ)) (summary : Summary) {T : Type 0} (items : T → List ℕ) (text : Option T)
    (read : ReadsWhole gives_all from to file) (holds : Holds file image)
    (is : IsCompaction weak census image special pieces summary (option_map items text)) where
  accepted : IsAccepted weak file image is.marks
  accepted = record { holds = holds; has_nil = is.has_nil; reachable = is.reachable; sound = is.sound }

  -- what is to be written
  abbrev bytes : List ℕ
  bytes = file_with image.memory.order image.prefix image.header special pieces

  -- the bytes of the compaction, as the contract says them
  abbrev compacted_bytes : List ℕ
  compacted_bytes = file_bytes (compacted image weak is.marks)

  -- where a sink stopped the run is refused for that
  refuses_stopped : (fault : Fault) → fault ≡ WriteFailed
      → StopsAtImage compacted_bytes old new ⊎ ((census ≡ true) × StopsAtCensus weak image.memory is.marks compacted_bytes old new)
      → Refuses gives_all weak census from to old new fault
  refuses_stopped fault named stops =
      subst (Refuses gives_all weak census from to old new) (sym named)
      (record { file = file; read = read; image = image; marks = is.marks; accepted = accepted; stops = stops })

  -- and not wholly written
  pub refuses_writing : (fault : Fault) → new.census ≡ old.census → WriteStops old.image new.image bytes fault
      → Refuses gives_all weak census from to old new fault
  refuses_writing fault untouched stops =
      let moved = subst (λ (b : List ℕ). WriteStops old.image new.image b fault) is.bytes stops in
      let named = subst (WriteStops old.image new.image compacted_bytes) stops.named moved in
      refuses_stopped fault stops.named (inl (record { stops = named; untouched = untouched }))

  module _ (written : WritesWhole old.image new.image bytes) where
    moved_written : WritesWhole old.image new.image compacted_bytes
    moved_written = subst (WritesWhole old.image new.image) is.bytes written

    -- written, but the census is not
    pub refuses_report : (fault : Fault) → IsSomeAnd text (λ t. WriteStops old.census new.census (items t) fault)
        → Refuses gives_all weak census from to old new fault
    refuses_report fault some =
        let asked = report_asked items image.memory weak is.marks census text
        (λ t. WriteStops old.census new.census (items t) fault) is.reported some in
        let (t, report, stops) = asked.1 in
        let named = subst (WriteStops old.census new.census (items t)) stops.named stops in
        refuses_stopped fault stops.named
        (inr (asked.0, record { written = moved_written; text = items t; report = report; stops = named }))

    -- and written, with what there is to report
    pub compacts : AreBytes file → MatchOption text (new.census ≡ old.census) (λ t. WritesWhole old.census new.census (items t))
        → Compacts gives_all weak census from to old new summary
    compacts are_bytes reported =
        record {
          file = file;
          read = read;
          image = image;
          marks = is.marks;
          accepted = accepted;
          written = moved_written;
          reported = reports items image.memory weak is.marks census text old.census new.census is.reported reported;
          counted = is.counted;
          fixed_point = IsFixedPoint-accepted weak file image is.marks are_bytes accepted;
        }

-- ---- a run from one file to another

-- what was done by a plan with this policy and this wish for a census, over a source with what a file had left, to the sink of
-- a file that was not made yet
pub runs_files : {F S : Type 0} (views : Views F S) (path : Text) (old new : SinkState)
    (Does : Weak → Bool → SourceState → SourceState → Sinks → Sinks → Type 0) (weak policy : Weak) (census asked : Bool) (file : F)
    (from to : SourceState) (sink after : S) → weak ≡ policy → census ≡ asked → from ≡ new_source (views.left file)
    → views.path sink ≡ path → views.state sink ≡ new_output
    → Does weak census from to (sinks (views.state sink) old) (sinks (views.state after) new)
    → RunsFiles views path old new (Does policy asked)
runs_files views path old new Does weak policy census asked file from to sink after same wished read named not_made does =
    let before = sinks (views.state sink) old in
    let then = sinks (views.state after) new in
    let cleared : Does policy census from to before then = subst (λ (w : Weak). Does w census from to before then) same does in
    let counted : Does policy asked from to before then = subst (λ (c : Bool). Does policy c from to before then) wished cleared in
    record {
      file = file;
      to = to;
      sink = sink;
      named = named;
      not_made = not_made;
      after = after;
      does = subst (λ (s : SourceState). Does policy asked s to before then) read counted;
    }
