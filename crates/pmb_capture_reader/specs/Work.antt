-- What is asked of a reader by its one call.
use Rattle.std.specs.Prelude.{◌≡◌, ◌≢◌, ℕ, List, Some, [], ◌++◌, drop, length, min, take}
use Rattle.pmb_capture_reader.specs.Fed.{given_with}
use Rattle.pmb_capture_reader.specs.Ground.{ground_choice, ground_profile}
use Rattle.pmb_capture_reader.specs.Reader.{KeepsFew, ReaderStands, reader_kept, reader_ready, reader_state, reader_tally}
use Rattle.pmb_capture_reader.specs.Ready.{Begins}
use Rattle.pmb_capture_reader.specs.declared.reader.CaptureReader.{CaptureReader}
use Rattle.pmb_capture_reader.specs.declared.reader.Fed.TheVariants.{More, Ended, Memory}
use Rattle.pmb_capture_reader.specs.declared.reader_ground.ReaderGround.{ReaderGround}
use Rattle.pmb_capture_reader.specs.declared.work.Answer.{Answer}
use Rattle.pmb_capture_reader.specs.declared.work.Task.{Task}
use Rattle.pmb_capture_reader.specs.declared.work.Task.TheVariants as task
use Rattle.pmb_capture_reader.specs.declared.work.Work.{Work}
use Rattle.pmb_command.specs.Parts.{DeviceParts}
use Rattle.pmb_fact_stream.specs.Choice.{ChoiceData}
use Rattle.pmb_scan.specs.declared.after_bad_token.AfterBadToken.{AfterBadToken}
use Rattle.pmb_telling.specs.Tell.{StopsTold}

-- On this ground nothing was given or taken.
pub record StandsFresh (ground : ReaderGround) (reader : CaptureReader) : Type 0 where
  pub stands : ReaderStands (ground_choice ground) (ground_profile ground) ground.bad_words [] [] reader
  pub more : reader_state reader ≡ More
  pub none : reader_ready reader ≡ []
  pub kept : reader_kept reader ≡ 0

-- What was ready stays so, and more comes after it, if memory isn't refused. A reader that takes nothing more stays
-- as it is.
pub record Grows (old new : CaptureReader) : Type 0 where
  pub front : Begins (reader_ready old) (reader_ready new)
  pub refused : reader_state new ≡ Memory → reader_ready new ≡ reader_ready old
  pub over : reader_state old ≢ More → new ≡ old
  pub few : KeepsFew old new

-- A piece was given, where more was wanted. Where a word that is no token ends reading, what was told is also told of
-- whatever follows.
pub record Feeds (old : CaptureReader) (piece : List ℕ) (new : CaptureReader) : Type 0 where
  pub stands : (choice : ChoiceData) (profile : List DeviceParts) (after : AfterBadToken) (given taken : List ℕ)
      → ReaderStands choice profile after given taken old
      → ReaderStands choice profile after (given_with (reader_state old) given piece) taken new
  pub stops : (choice : ChoiceData) (profile : List DeviceParts) (after : AfterBadToken) (given taken : List ℕ)
      → ReaderStands choice profile after given taken old → reader_state old ≡ More → reader_state new ≡ Ended
      → StopsTold choice profile after (given ++ piece) (taken ++ reader_ready new) (reader_tally new)
  pub grows : Grows old new

-- The end was given, and nothing more is taken.
pub record Ends (old new : CaptureReader) : Type 0 where
  pub stands : (choice : ChoiceData) (profile : List DeviceParts) (after : AfterBadToken) (given taken : List ℕ)
      → ReaderStands choice profile after given taken old → ReaderStands choice profile after given taken new
  pub ends : reader_state new ≢ More
  pub grows : Grows old new

-- So many bytes, the oldest of what is ready, went to the front of the room: as many as fit.
pub record Takes (old : CaptureReader) (before : List ℕ) (new : CaptureReader) (after : List ℕ) (moved : ℕ)
    : Type 0 where
  pub stands : (choice : ChoiceData) (profile : List DeviceParts) (after_bad : AfterBadToken) (given taken : List ℕ)
      → ReaderStands choice profile after_bad given taken old
      → ReaderStands choice profile after_bad given (taken ++ take moved after) new
  pub as_many : moved ≡ min (length (reader_ready old)) (length before)
  pub room : after ≡ take moved (reader_ready old) ++ drop moved before
  pub left : reader_ready old ≡ take moved after ++ reader_ready new
  pub state : reader_state new ≡ reader_state old
  pub tally : reader_tally new ≡ reader_tally old
  pub few : KeepsFew old new

-- what was done for a task with this piece, this room before and after, and so many bytes moved
abbrev pub DoesFor : Task → CaptureReader → CaptureReader → List ℕ → List ℕ → List ℕ → ℕ → Type 0
DoesFor task.Feed old new piece before after moved = Feeds old piece new × (after ≡ before) × (moved ≡ 0)
DoesFor task.End old new piece before after moved = Ends old new × (after ≡ before) × (moved ≡ 0)
DoesFor task.Take old new piece before after moved = Takes old before new after moved
DoesFor task.Look old new piece before after moved = (new ≡ old) × (after ≡ before) × (moved ≡ 0)

-- how many bytes were ready before any were moved
abbrev pub ready_for : Task → CaptureReader → CaptureReader → List ℕ
ready_for task.Feed old new = reader_ready new
ready_for task.End old new = reader_ready new
ready_for task.Take old new = reader_ready old
ready_for task.Look old new = reader_ready new

-- The reader did what was asked, and answered.
pub record Acts (old new : CaptureReader) (work done : Work) : Type 0 where
  pub answer : Answer
  pub answered : done.answer ≡ Some answer
  pub does : DoesFor work.task old new work.piece.now work.room.now done.room.now answer.moved
  pub state : answer.state ≡ reader_state new
  pub ready : answer.ready ≡ length (ready_for work.task old new)
  pub tally : answer.tally ≡ reader_tally new
  -- the room is the one that was lent
  pub same : done.room.ghost_name ≡ work.room.ghost_name
