-- A loop of writes: what it has written so far, and how it ends.
-- Serves `write_whole::send`, `write_words::send_words` and `write_words::write_words`.
use Rattle.std.proofs.Common.{◌≡◌, ◌≢◌, ℕ, ◌+◌, ◌-◌, ◌<◌, List, [], ◌++◌, append-nil, append_assoc, take-append-drop}
use Rattle.std.proofs.Common.{Option, Some, None, length, take, drop, Ok, Err, sym, ap, subst, ◌∙◌, refl, inl, inr, arith}
use Rattle.std.proofs.lemmas.List.{take_rest}
use Rattle.std.specs.Io.KnownBytes.{Keeps, Appends}
use Rattle.std.proofs.KnownBytes.{Appends-nil, Appends-trans}
use Rattle.sqz_image.specs.declared.device.DeviceFault.{DeviceFault}
use Rattle.sqz_image.specs.declared.fault.Fault.{Fault}
use Rattle.sqz_image.specs.declared.fault.Fault.TheVariants.{WriteFailed}
use Rattle.sqz_image.specs.Devices.{SinkState, IsWrite, IsFlush, turn_limit, count_after, Sends, SendStops, WriteStops}
use Rattle.sqz_image.proofs.Turns.{count_after-count_after}

-- ---- one write

-- a write, after which some turns are left
pub Sends-write : (old new : SinkState) (piece : List ℕ) (count left : ℕ) → IsWrite old new piece (Ok count) → 1 < left
    → Sends old new (take count piece) left (left - 1)
Sends-write old new piece count left write some =
    let one : 1 ≡ left - (left - 1) = omega arith in
    record {
      bytes_added = write.4;
      failed = write.1 ∙ sym write.0;
      some_left = omega arith;
      none_won = omega arith;
      counted = write.5 ∙ ap (count_after old.writes) one;
    }

-- the last turn was taken
pub SendStops-limit : (old new : SinkState) (piece : List ℕ) (count left : ℕ) → IsWrite old new piece (Ok count) → 1 ≡ left
    → SendStops old new piece left WriteFailed
SendStops-limit old new piece count left write last =
    record {
      front = take count piece;
      rest = drop count piece;
      of_bytes = sym (take-append-drop count piece);
      bytes_added = write.4;
      named = refl;
      counted = record { turns = 1; within = omega arith; counted = write.5; cause = inr last };
    }

-- bytes that stay as they were grow by none
Appends-kept : (old new : Option (List ℕ)) → Keeps old new → Appends old new []
Appends-kept None new kept = tt
Appends-kept (Some bytes) None kept = absurd kept
Appends-kept (Some bytes) (Some more) kept = kept ∙ sym (append-nil bytes)

-- a write failed
pub SendStops-failed : (old new : SinkState) (piece : List ℕ) (fault : DeviceFault) (left : ℕ)
    → IsWrite old new piece (Err fault) → 0 < left → SendStops old new piece left WriteFailed
SendStops-failed old new piece fault left write some =
    record {
      front = [];
      rest = piece;
      of_bytes = refl;
      bytes_added = Appends-kept old.contents new.contents write.1;
      named = refl;
      counted = record { turns = 1; within = omega arith; counted = write.2; cause = inl write.0 };
    }

-- ---- writes so far

-- of the bytes all but the rest were sent
pub record IsSending (old now : SinkState) (bytes rest : List ℕ) (turns left : ℕ) : Type 0 where
  pub sent : List ℕ
  pub parts : bytes ≡ sent ++ rest
  pub sends : Sends old now sent turns left

pub IsSending-none : (state : SinkState) (bytes : List ℕ) (turns : ℕ) → 0 < turns → IsSending state state bytes bytes turns turns
IsSending-none state bytes turns some =
    let none : 0 ≡ turns - turns = omega arith in
    record {
      sent = [];
      parts = refl;
      sends = record {
        bytes_added = Appends-nil state.contents;
        failed = refl;
        some_left = some;
        none_won = omega arith;
        counted = ap (count_after state.writes) none;
      };
    }

-- the bytes from a place on, as a slice has them
take-rest : (rest : List ℕ) (count : ℕ) → rest ≡ take count rest ++ take (length rest - count) (drop count rest)
take-rest rest count = sym (ap (λ l. take count rest ++ l) (take_rest rest count) ∙ take-append-drop count rest)

module _ (old now : SinkState) (bytes rest : List ℕ) (turns left : ℕ)
    (so_far : IsSending old now bytes rest turns left) where
  module _ (new : SinkState) (piece after : List ℕ) (parts : rest ≡ piece ++ after) where
    counted_more : (more all : ℕ)
        → new.writes ≡ count_after now.writes more → turns - left + more ≡ all → new.writes ≡ count_after old.writes all
    counted_more more all counted together =
        counted ∙ ap (λ count. count_after count more) so_far.sends.counted
        ∙ count_after-count_after old.writes (turns - left) more ∙ ap (count_after old.writes) together

    -- one more piece was sent
    pub IsSending-more : (less : ℕ) → Sends now new piece left less → IsSending old new bytes after turns less
    IsSending-more less sends =
        record {
          sent = so_far.sent ++ piece;
          parts = so_far.parts ∙ ap (λ l. so_far.sent ++ l) parts ∙ sym (append_assoc so_far.sent piece after);
          sends = record {
            bytes_added =
                Appends-trans old.contents now.contents new.contents so_far.sent piece
                so_far.sends.bytes_added sends.bytes_added;
            failed = sends.failed ∙ so_far.sends.failed;
            some_left = sends.some_left;
            none_won = omega arith;
            counted = counted_more (left - less) (turns - less) sends.counted (omega arith);
          };
        }

    -- the next piece was not sent whole
    pub SendStops-more : (fault : Fault) → SendStops now new piece left fault → SendStops old new bytes turns fault
    SendStops-more fault stops =
        record {
          front = so_far.sent ++ stops.front;
          rest = stops.rest ++ after;
          of_bytes =
              so_far.parts
              ∙ ap (λ l. so_far.sent ++ l)
              (parts ∙ ap (λ l. l ++ after) stops.of_bytes ∙ append_assoc stops.front stops.rest after)
              ∙ sym (append_assoc so_far.sent stops.front (stops.rest ++ after));
          bytes_added =
              Appends-trans old.contents now.contents new.contents so_far.sent stops.front
              so_far.sends.bytes_added stops.bytes_added;
          named = stops.named;
          counted = record {
            turns = turns - left + stops.counted.turns;
            within = omega (arith, stops.counted.within, so_far.sends.none_won);
            counted = counted_more stops.counted.turns _ stops.counted.counted refl;
            cause = elim (stops.counted.cause) [ inl h ↦ inl h | inr h ↦ inr (omega (arith, so_far.sends.none_won)) ];
          };
        }

  -- ---- the same of one write of all the rest

  module _ (new : SinkState) (count : ℕ) (write : IsWrite now new rest (Ok count)) where
    abbrev unsent : List ℕ
    unsent = take (length rest - count) (drop count rest)

    -- a write, after which some turns are left
    pub IsSending-write : left - 1 ≢ 0 → IsSending old new bytes unsent turns (left - 1)
    IsSending-write some =
        IsSending-more new (take count rest) unsent (take-rest rest count) (left - 1)
        (Sends-write now new rest count left write (omega arith))

    -- a write in the last turn
    pub SendStops-write : left - 1 ≡ 0 → SendStops old new bytes turns WriteFailed
    SendStops-write last =
        SendStops-more new rest [] (sym (append-nil rest)) WriteFailed
        (SendStops-limit now new rest count left write (omega (arith, so_far.sends.some_left)))

  -- a write of the rest failed
  pub SendStops-write_failed : (new : SinkState) (fault : DeviceFault)
      → IsWrite now new rest (Err fault) → SendStops old new bytes turns WriteFailed
  SendStops-write_failed new fault write =
      SendStops-more new rest [] (sym (append-nil rest)) WriteFailed
      (SendStops-failed now new rest fault left write so_far.sends.some_left)

-- ---- the whole call

-- not all was sent
pub WriteStops-sent : (old new : SinkState) (bytes : List ℕ) (fault : Fault)
    → SendStops old new bytes turn_limit fault → WriteStops old new bytes fault
WriteStops-sent old new bytes fault stops =
    record {
      front = stops.front;
      rest = stops.rest;
      of_bytes = stops.of_bytes;
      bytes_added = stops.bytes_added;
      named = stops.named;
      counted = stops.counted;
    }

-- all that was to be sent was sent, and the flush failed
pub WriteStops-flush : (old now new : SinkState) (bytes rest : List ℕ) (left : ℕ) (fault : DeviceFault)
    → IsSending old now bytes rest turn_limit left → IsFlush {T = Unit {0}} now new (Err fault) → WriteStops old new bytes WriteFailed
WriteStops-flush old now new bytes rest left fault sending flush =
    record {
      front = sending.sent;
      rest = rest;
      of_bytes = sending.parts;
      bytes_added =
          subst (Appends old.contents new.contents) (append-nil sending.sent)
          (Appends-trans old.contents now.contents new.contents sending.sent [] sending.sends.bytes_added
          (Appends-kept now.contents new.contents flush.1));
      named = refl;
      counted = record {
        turns = turn_limit - left;
        within = omega arith;
        counted = flush.2 ∙ sending.sends.counted;
        cause = inl flush.0;
      };
    }
