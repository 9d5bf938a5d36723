-- A run of the tool over bytes, and then files as one.
use Rattle.std.specs.Prelude.{◌≡◌, ◌≢◌, ℕ, true, false, Option, Some, List, []}
use Rattle.pmb_io.specs.Calls.{io_ended, io_failures, io_given, io_inner, io_reads}
use Rattle.pmb_io.specs.Told.{ReaderTold, WriterTold}
use Rattle.pmb_io.specs.declared.io.Io.{Io}
use Rattle.pmb_args.specs.ExitStatus.{EndedWell, Failed, IsTold}
use Rattle.pmb_args.specs.declared.exit_status.ExitStatus.{ExitStatus}
use Rattle.pmb_args.specs.declared.exit_status.ExitStatus.TheVariants.{BadArguments, NoMemory}
use Rattle.pmb_cli.specs.Program.{RanProgram}
use Rattle.pmb_explained.specs.Grown.{Grew}
use Rattle.pmb_explained.specs.Kept.{input_inner}
use Rattle.pmb_explained.specs.declared.kept_input.KeptInput.{KeptInput}
use Rattle.pmb_files.specs.Joined.{joined_left, left_of}
use Rattle.pmb_files.specs.Known.{Known, all_bytes}
use Rattle.pmb_files.specs.Words.{Text}
use Rattle.pmb_files.specs.declared.joined.Joined.{Joined}

-- What a reader tells before its first read, which has these bytes left, where they are known.
pub record IsFresh (told : ReaderTold) (bytes : Option (List ℕ)) : Type 0 where
  pub left : told.left ≡ bytes
  pub given : told.given ≡ 0
  pub reads : told.reads ≡ 0
  pub failures : told.failures ≡ 0
  pub ended : told.ended ≡ false

-- what a writer into memory tells before anything is written
abbrev pub nothing_said : WriterTold
nothing_said = record { held = Some []; failures = 0 }

-- What became of what the tool said: by the writer that kept it, by standard error before and after, by the status with
-- which the tool ended, and by that of the run.
module _ {E : Type 0} (err_told : E → WriterTold) (said : WriterTold) (old new : E) where
  pub data IsPassedOn : (ended status : ExitStatus) → Type 0 where
    -- The tool ended well, and standard error stays as it is.
    quiet : (ended : ExitStatus) → EndedWell ended → new ≡ old → IsPassedOn ended ended
    -- It failed, and standard error gets some text. What it said of bad arguments was all kept.
    told : (ended : ExitStatus) → Failed ended → (ended ≡ BadArguments → said.failures ≡ 0)
        → IsTold (err_told old) (err_told new) → IsPassedOn ended ended
    -- There was no memory for what it said of bad arguments, which is said in its place.
    no_memory : said.failures ≢ 0 → IsTold (err_told old) (err_told new) → IsPassedOn BadArguments NoMemory

module _ {F O W E : Type 0} (known : F → Text → Known) (left : O → Option (List ℕ)) (out_told : W → WriterTold)
    (err_told : E → WriterTold) (sample : List ℕ) (files : F) where
  -- what a reader of joined files tells, of which what it read is kept
  abbrev pub reader_told : KeptInput (Io (Joined F O)) → ReaderTold
  reader_told input = record {
    left = joined_left known left (io_inner (input_inner input));
    given = io_given (input_inner input);
    reads = io_reads (input_inner input);
    failures = io_failures (input_inner input);
    ended = io_ended (input_inner input);
  }

  -- The tool has run with these words over this head, and then the files of these names as one: over a reader that
  -- had just these left. What it said was kept, and passed on to standard error. Only after that came more there, if
  -- it is explained.
  pub record RanOver (words : List Text) (head : List ℕ) (names : List Text) (old new : W × E)
      (status : ExitStatus) : Type 0 where
    pub first : KeptInput (Io (Joined F O))
    pub last : KeptInput (Io (Joined F O))
    pub said : WriterTold
    pub ended : ExitStatus
    pub err : E
    pub at_first : IsFresh (reader_told first) (left_of true (Some head) (all_bytes (known files) names))
    pub ran : RanProgram reader_told out_told (λ told. told) sample words (first, old.0, nothing_said)
        (last, new.0, said) ended
    pub passed_on : IsPassedOn err_told said old.1 err ended status
    pub grew : Grew (err_told err) (err_told new.1)
