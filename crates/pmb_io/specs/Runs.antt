-- What is done with an input: the bytes `first`, and then those that a reader gives, in pieces of any size.
use Rattle.std.specs.Prelude.{◌≡◌, ◌≢◌, ℕ, ◌^◌, ◌≤◌, ◌⊎◌, true, Result, Ok, Err, IfOk, List, [], ◌++◌, length}
use Rattle.std.specs.Io.KnownBytes.{Appends, Consumes, IsAtEnd}
use Rattle.pmb_io.specs.Count.{raised}
use Rattle.pmb_io.specs.Told.{ReaderTold, Told, WriterTold, told_by}
use Rattle.pmb_io.specs.declared.fault.RunFault.{RunFault}
use Rattle.pmb_io.specs.declared.fault.RunFault.TheVariants.{Read, Write, TooManyReads}
use Rattle.pmb_io.specs.declared.fault.ToolFault.{ToolFault}
use Rattle.pmb_io.specs.declared.fault.ToolFault.TheVariants as tool

-- The most bytes that one read gives.
abbrev pub most_piece : ℕ
most_piece = 65536

-- The most reads that a call makes of a reader that neither ends nor fails.
abbrev pub most_reads : ℕ
most_reads = 2 ^ 32

-- ---- how much was read

-- Of the input, `first` and what was read, and of the text that was written for it, this holds.
pub record Through (Holds : List ℕ → List ℕ → Type 0) (first : List ℕ) (old new : Told) : Type 0 where
  pub read : List ℕ
  pub text : List ℕ
  pub consumed : Consumes old.reader.left new.reader.left read
  pub given : new.reader.given ≡ raised old.reader.given (length read)
  pub appended : Appends old.writer.held new.writer.held text
  pub holds : Holds (first ++ read) text

-- The input was read to its end.
pub record Ended (Holds : List ℕ → List ℕ → Type 0) (first : List ℕ) (old new : Told) : Type 0 where
  pub through : Through Holds first old new
  pub ended : new.reader.ended ≡ true
  pub at_end : IsAtEnd new.reader.left

-- ---- what stops reading

-- these bytes were read
pub record Gave (old new : ReaderTold) (read : List ℕ) : Type 0 where
  pub consumed : Consumes old.left new.left read
  pub given : new.given ≡ raised old.given (length read)

-- One read gave the last piece of the bytes, and `first` and the bytes before it left something
-- open. `middle` is the reader
-- as it was before that read. `R` is any type of readers, since for one type, such as slices, a
-- `middle` could be made up;
-- code over every type has no readers but those that `old` became. So a body is refused that reads
-- on after a piece which
-- left nothing open, as one that fills a buffer by two reads may: by one read, no reader that it
-- had gave all the bytes that
-- came after something was open.
pub record InTime {R : Type 0} (told : R → ReaderTold) (IsOpen : List ℕ → Type 0) (first : List ℕ) (old new : R)
    (read : List ℕ) : Type 0 where
  pub before : List ℕ
  pub piece : List ℕ
  pub whole : read ≡ before ++ piece
  pub is_open : IsOpen (first ++ before)
  pub middle : R
  pub gave_before : Gave (told old) (told middle) before
  pub gave_piece : Gave (told middle) (told new) piece
  pub one_read : (told new).reads ≡ raised (told middle).reads 1
  pub small : length piece ≤ most_piece

-- Nothing was read, or one read gave the last piece, before which something was open.
abbrev pub OpenBefore : {R : Type 0} → (R → ReaderTold) → (List ℕ → Type 0) → List ℕ → R → R → List ℕ → Type 0
OpenBefore told IsOpen first old new read =
    ((read ≡ []) × ((told new).reads ≡ (told old).reads)) ⊎ InTime told IsOpen first old new read

-- ---- how often

-- how many reads were made that neither failed nor were the end
abbrev pub MadeReads : ℕ → ℕ → Type 0
MadeReads old new = (count : ℕ) × (count ≤ most_reads) × (new ≡ raised old count)

-- ---- a run

-- What a run is to write for its input, where it returns an `A`.
pub record Job (A : Type 0) : Type 1 where
  -- the text that is written for all of an input
  pub Whole : A → List ℕ → List ℕ → Type 0
  -- the text that is written for an input of which no more is wanted, whatever follows
  pub Stops : A → List ℕ → List ℕ → Type 0
  -- the text that is written for the front of an input
  pub Front : List ℕ → List ℕ → Type 0
  -- more is wanted after such a front
  pub IsOpen : List ℕ → Type 0

module _ {R W : Type 0} (reader_told : R → ReaderTold) (writer_told : W → WriterTold) where
  -- No more of the input was wanted: so it was at `first`, and nothing was read, or at the last
  -- piece, which came by one read.
  pub record Stopped (Holds : List ℕ → List ℕ → Type 0) (IsOpen : List ℕ → Type 0) (first : List ℕ)
      (old new : R × W) : Type 0 where
    pub through : Through Holds first (told_by reader_told writer_told old) (told_by reader_told writer_told new)
    pub in_time : OpenBefore reader_told IsOpen first old.0 new.0 through.read

  -- The job is done: its input was read to its end, or no more of it was wanted.
  abbrev pub Done : {A : Type 0} → Job A → A → List ℕ → R × W → R × W → Type 0
  Done job answer first old new =
      Ended (job.Whole answer) first (told_by reader_told writer_told old) (told_by reader_told writer_told new)
      ⊎ Stopped (job.Stops answer) job.IsOpen first old new

  -- A part of it is done, of an input that may continue.
  abbrev pub PartDone : {A : Type 0} → Job A → List ℕ → R × W → R × W → Type 0
  PartDone job first old new = Through job.Front first (told_by reader_told writer_told old)
      (told_by reader_told writer_told new)

  -- A run of a job over a reader and a writer, as they were before it and after it.
  pub record Ran {A : Type 0} (job : Job A) (first : List ℕ) (old new : R × W)
      (result : Result A RunFault) : Type 0 where
    -- What was written is the job's text for `first` and the bytes read, however the reader cut them.
    pub ok : IfOk result (λ answer. Done job answer first old new)
    -- The reader failed in this run exactly where it returns `Read`, the writer where it returns `Write`.
    pub read : result ≡ Err Read → (reader_told new.0).failures ≡ raised (reader_told old.0).failures 1
    pub no_read : result ≢ Err Read → (reader_told new.0).failures ≡ (reader_told old.0).failures
    pub write : result ≡ Err Write → (writer_told new.1).failures ≡ raised (writer_told old.1).failures 1
    pub no_write : result ≢ Err Write → (writer_told new.1).failures ≡ (writer_told old.1).failures
    -- It makes no more reads than these, and so many before it returns `TooManyReads`.
    pub reads : MadeReads (reader_told old.0).reads (reader_told new.0).reads
    pub too_many : result ≡ Err TooManyReads → (reader_told new.0).reads ≡ raised (reader_told old.0).reads most_reads
    pub not_ended : result ≡ Err TooManyReads → (reader_told new.0).ended ≡ (reader_told old.0).ended
    -- A reader that ended in this run is not read again, so that no failed read comes after its end.
    pub read_not_ended : result ≡ Err Read → (reader_told new.0).ended ≡ (reader_told old.0).ended
    -- What was written before reading failed, or before too many reads, is the job's text for that front of the input.
    pub before : (result ≡ Err Read) ⊎ (result ≡ Err TooManyReads) → PartDone job first old new
    -- Too many reads gave as many bytes at least.
    pub many : result ≡ Err TooManyReads → (through : PartDone job first old new) × (most_reads ≤ length through.read)

-- ---- as a call of the tool returns it

-- a run's fault among those of the tool
abbrev pub as_tool_fault : RunFault → ToolFault
as_tool_fault Read = tool.Read
as_tool_fault Write = tool.Write
as_tool_fault TooManyReads = tool.TooManyReads

-- This holds of the result of a run, and the tool's other faults are not returned.
abbrev pub AsTool : {A : Type 0} → (Result A RunFault → Type 0) → Result A ToolFault → Type 0
AsTool Holds (Ok answer) = Holds (Ok answer)
AsTool Holds (Err tool.Read) = Holds (Err Read)
AsTool Holds (Err tool.Write) = Holds (Err Write)
AsTool Holds (Err tool.TooManyReads) = Holds (Err TooManyReads)
AsTool Holds (Err tool.ProfileTooLong) = ⊥
AsTool Holds (Err tool.Memory) = ⊥
