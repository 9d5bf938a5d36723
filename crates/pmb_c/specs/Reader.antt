-- A reader behind a handle.
use Rattle.std.specs.Arc.{arc_value}
use Rattle.std.specs.Prelude.{◌≡◌, ℕ, ℤ, nat_lt, if◌then◌else◌, Bool, true, false, Option, Some, None, Result, Ok, Err, List, length}
use Rattle.pmb_capture_reader.specs.Reader.{reader_ready, reader_state, reader_tally}
use Rattle.pmb_capture_reader.specs.Work.{Acts, Ends, Feeds, StandsFresh, Takes}
use Rattle.pmb_capture_reader.specs.declared.reader.CaptureReader.{CaptureReader}
use Rattle.pmb_capture_reader.specs.declared.reader.Fed.{Fed}
use Rattle.pmb_capture_reader.specs.declared.reader.Fed.TheVariants as fed
use Rattle.pmb_capture_reader.specs.declared.reader_ground.ReaderGround.{ReaderGround}
use Rattle.pmb_capture_reader.specs.declared.work.Answer.{Answer}
use Rattle.pmb_capture_reader.specs.declared.work.Work.{Work}
use Rattle.pmb_in_memory.specs.declared.json_choice.JsonChoice.{JsonChoice}
use Rattle.pmb_table.specs.Profile.{ProfileParts}
use Rattle.pmb_firmware.specs.CallStatus.{number_of}
use Rattle.pmb_firmware.specs.declared.call_status.CallStatus.{CallStatus}
use Rattle.pmb_firmware.specs.declared.call_status.CallStatus.TheVariants as status
use Rattle.pmb_c.specs.Asked.{is_asked, telling_of}
use Rattle.pmb_c.specs.Handle.{HoldsProfile, profile_in}
use Rattle.pmb_c.specs.Result.{result_of_status}
use Rattle.pmb_c.specs.declared.held.Held.{Held}
use Rattle.pmb_c.specs.declared.held.Held.TheVariants as held
use Rattle.pmb_c.specs.declared.held.HeldReader.{HeldReader}
use Rattle.pmb_c.specs.declared.held.ReaderKind.{ReaderKind}
use Rattle.pmb_c.specs.declared.held.ReaderKind.TheVariants.{Objects}
use Rattle.pmb_c.specs.declared.result.PmbResult.{PmbResult}

-- a reader that is asked for, or none
abbrev pub reader_if : Bool → HeldReader → Option CaptureReader
reader_if true kept = kept.reader.is
reader_if false kept = None

-- the reader that a handle holds, if it holds one of a kind that is asked for
abbrev pub reader_asked : Option ReaderKind → Option Held → Option CaptureReader
reader_asked asked None = None
reader_asked asked (Some (held.Profile shared)) = None
reader_asked asked (Some (held.Bus kept)) = None
reader_asked asked (Some (held.Reader kept)) = reader_if (is_asked asked kept.kind) kept

-- .. of any kind
abbrev pub reader_in : Option Held → Option CaptureReader
reader_in from = reader_asked None from

-- .. and a reader of objects
abbrev pub objects_in : Option Held → Option CaptureReader
objects_in from = reader_asked (Some Objects) from

-- what the reader that a handle holds tells
abbrev pub kind_in : Option Held → Option ReaderKind
kind_in None = None
kind_in (Some (held.Profile shared)) = None
kind_in (Some (held.Bus kept)) = None
kind_in (Some (held.Reader kept)) = Some kept.kind

-- The reader that a handle holds did what is asked, and tells what it told; or the handle holds none of the kind that is
-- asked for, and nothing was done.
abbrev pub ActsHeld : Option ReaderKind → Option Held → Work → Option Held → Work → Option Answer → Type 0
ActsHeld asked from work after done None = (reader_asked asked from ≡ None) × (after ≡ from) × (done.room ≡ work.room)
ActsHeld asked from work after done (Some answer) = (old : CaptureReader) × (new : CaptureReader)
    × (reader_asked asked from ≡ Some old) × (reader_asked asked after ≡ Some new) × Acts old new work done
    × (done.answer ≡ Some answer) × (kind_in after ≡ kind_in from)

-- ---- opening

-- What is read is told so, of devices at these addresses, as it is chosen, under this profile.
pub record IsGroundOf (kind : ReaderKind) (choice : JsonChoice) (devices : List ℕ) (bus : ProfileParts)
    (base : ReaderGround) : Type 0 where
  pub of_profile : arc_value base.bus ≡ bus
  pub of_devices : base.devices.items ≡ devices
  pub digits : base.digits ≡ choice.digits
  pub start : base.start ≡ choice.start
  pub bad_words : base.bad_words ≡ choice.bad_words
  pub told : base.telling ≡ telling_of kind

-- What is held is such a reader, to which nothing was given.
pub record HasReader (kind : ReaderKind) (choice : JsonChoice) (devices : List ℕ) (bus : ProfileParts) (holds : Held)
    : Type 0 where
  pub base : ReaderGround
  pub reader : CaptureReader
  pub ground : IsGroundOf kind choice devices bus base
  pub fresh : StandsFresh base reader
  pub is : reader_in (Some holds) ≡ Some reader
  pub of_kind : kind_in (Some holds) ≡ Some kind

-- A reader is open, or none: the choice has a fault; or it has none, and the other handle holds no profile, or there was
-- no memory for a reader under the one that it holds.
pub data OpensReader (kind : ReaderKind) (chosen : Result JsonChoice CallStatus) (devices : List ℕ) (from after : Option Held)
    (returned : ℤ) : Type 0 where
  Opened : (choice : JsonChoice) (bus : ProfileParts) (holds : Held) → chosen ≡ Ok choice → profile_in from ≡ Some bus
      → HasReader kind choice devices bus holds → after ≡ Some holds → returned ≡ number_of status.Done
      → OpensReader kind chosen devices from after returned
  Unchosen : (why : CallStatus) → chosen ≡ Err why → after ≡ None → returned ≡ number_of why
      → OpensReader kind chosen devices from after returned
  Closed : (choice : JsonChoice) → chosen ≡ Ok choice → profile_in from ≡ None → after ≡ None
      → returned ≡ number_of status.Closed → OpensReader kind chosen devices from after returned
  NoMemory : (choice : JsonChoice) → chosen ≡ Ok choice → HoldsProfile from → after ≡ None
      → returned ≡ number_of status.NoMemory → OpensReader kind chosen devices from after returned

-- ---- reading

-- the status of how much more is taken
abbrev pub number_of_fed : Fed → ℤ
number_of_fed fed.More = number_of status.Done
number_of_fed fed.Ended = number_of status.Ended
number_of_fed fed.Memory = number_of status.NoMemory

abbrev pub number_of_answer : Option Answer → ℤ
number_of_answer (Some answer) = number_of_fed answer.state
number_of_answer None = number_of status.Closed

-- A piece was given to the reader that the handle holds, of either kind, or it holds none.
pub data FeedsReader (from : Option Held) (piece : List ℕ) (after : Option Held) (returned : ℤ) : Type 0 where
  Read : (old new : CaptureReader) → reader_in from ≡ Some old → reader_in after ≡ Some new
      → kind_in after ≡ kind_in from → Feeds old piece new → returned ≡ number_of_fed (reader_state new)
      → FeedsReader from piece after returned
  Closed : reader_in from ≡ None → after ≡ from → returned ≡ number_of status.Closed
      → FeedsReader from piece after returned

-- The end was given to it, and it takes no more.
pub data EndsReader (from after : Option Held) (returned : ℤ) : Type 0 where
  Over : (old new : CaptureReader) → reader_in from ≡ Some old → reader_in after ≡ Some new
      → kind_in after ≡ kind_in from → Ends old new → returned ≡ number_of_fed (reader_state new)
      → EndsReader from after returned
  Closed : reader_in from ≡ None → after ≡ from → returned ≡ number_of status.Closed → EndsReader from after returned

-- ---- taking

-- what is told of what was taken: how much was ready, and whether some stays
abbrev pub status_of_taken : Answer → CallStatus
status_of_taken answer = if nat_lt answer.moved answer.ready then status.NoRoom else status.Done

abbrev pub result_of_taken : Answer → PmbResult
result_of_taken answer = record (result_of_status (status_of_taken answer)) {
  length = answer.ready;
  packets = answer.tally.packets;
  refusals = answer.tally.refusals;
}

-- What is ready went to the room as far as it fits, or the handle holds no reader of objects.
pub data TakesReader (from : Option Held) (before : List ℕ) (after : Option Held) (room : List ℕ) (told : PmbResult)
    (returned : ℕ) : Type 0 where
  Taken : (old new : CaptureReader) (answer : Answer) → objects_in from ≡ Some old → objects_in after ≡ Some new
      → Takes old before new room answer.moved → answer.ready ≡ length (reader_ready old)
      → answer.tally ≡ reader_tally new → told ≡ result_of_taken answer → returned ≡ answer.moved
      → TakesReader from before after room told returned
  Closed : objects_in from ≡ None → after ≡ from → room ≡ before → told ≡ result_of_status status.Closed → returned ≡ 0
      → TakesReader from before after room told returned
