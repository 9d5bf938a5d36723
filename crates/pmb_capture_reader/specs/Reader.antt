-- What a reader has told of the text that it was given, and what is ready of that.
use Rattle.std.specs.Prelude.{◌≡◌, ◌≤◌, ◌⊎◌, ℕ, ◌*◌, List, ◌++◌, length}
use Rattle.pmb_capture_reader.specs.Queue.{queue_kept}
use Rattle.pmb_capture_reader.specs.declared.reader.CaptureReader.{CaptureReader}
use Rattle.pmb_capture_reader.specs.declared.reader.Fed.{Fed}
use Rattle.pmb_capture_reader.specs.declared.reader.Fed.TheVariants.{More, Ended, Memory}
use Rattle.pmb_command.specs.Parts.{DeviceParts}
use Rattle.pmb_fact_stream.specs.Choice.{ChoiceData}
use Rattle.pmb_io.specs.declared.tally.Tally.{Tally}
use Rattle.pmb_scan.specs.declared.after_bad_token.AfterBadToken.{AfterBadToken}
use Rattle.pmb_telling.specs.Tell.{WritesToldFront}
use Rattle.pmb_telling.specs.Teller.{TellerStands, counted_by}
use Rattle.pmb_telling.specs.Text.{WritesTold}

-- how much more it takes
abbrev pub reader_state : CaptureReader → Fed
reader_state reader = reader.state

-- the bytes that are ready to be taken, the oldest first
abbrev pub reader_ready : CaptureReader → List ℕ
reader_ready reader = reader.queue.left

-- how many bytes it keeps for that, those included that were taken
abbrev pub reader_kept : CaptureReader → ℕ
reader_kept reader = queue_kept reader.queue

-- No more bytes are kept than before, or at most twice as many as are ready.
abbrev pub KeepsFew : CaptureReader → CaptureReader → Type 0
KeepsFew old new = (reader_kept new ≤ reader_kept old) ⊎ (reader_kept new ≤ 2 * length (reader_ready new))

-- how many packets it counted, and how many refusals and words that are no token
abbrev pub reader_tally : CaptureReader → Tally
reader_tally reader = counted_by reader.teller

module _ (choice : ChoiceData) (profile : List DeviceParts) (after : AfterBadToken) where
  -- Of all bytes that were given a text was told: what is told of them so far, and by that a front of what is
  -- written for them; all that is written for them, with its tally; or what is told so far of a front of them,
  -- where memory was refused.
  abbrev pub Tells : Fed → Tally → List ℕ → List ℕ → Type 0
  Tells More tally given told = WritesToldFront choice profile after given told
  Tells Ended tally given told = WritesTold choice profile after given told tally
  Tells Memory tally given told =
      (front : List ℕ) × (rest : List ℕ) × (given ≡ front ++ rest) × WritesToldFront choice profile after front told

  -- It was given these bytes since it was made, and these were taken from it: what was taken and what is ready
  -- is what was told of them. By the laws `one_text_is_told_so_far` and `one_text_is_told` that is one text,
  -- however the bytes were cut.
  pub record ReaderStands (given taken : List ℕ) (reader : CaptureReader) : Type 0 where
    pub tells : Tells (reader_state reader) (reader_tally reader) given (taken ++ reader_ready reader)
    pub teller : reader_state reader ≡ More
        → TellerStands choice profile after reader.teller given (taken ++ reader_ready reader)
