-- What `pmb` does where what it writes goes on in its colours.
use Rattle.std.specs.Prelude.{◌≡◌, ℕ, Option, Some, List, []}
use Rattle.std.specs.Io.KnownBytes.{Appends}
use Rattle.pmb_io.specs.Count.{raised}
use Rattle.pmb_io.specs.Told.{WriterTold}
use Rattle.pmb_args.specs.ExitStatus.{IsTold}
use Rattle.pmb_args.specs.declared.exit_status.ExitStatus.{ExitStatus}
use Rattle.pmb_args.specs.declared.exit_status.ExitStatus.TheVariants.{IoFailed}
use Rattle.pmb_colour.specs.Onward.{all_pieces}
use Rattle.pmb_colour.specs.Pieces.{shown}
use Rattle.pmb_colour.specs.declared.lines.Lines.{Lines}
use Rattle.pmb_files.specs.Asked.{RanAsked}
use Rattle.pmb_files.specs.Known.{Known}
use Rattle.pmb_files.specs.Program.{HadNoMemory}
use Rattle.pmb_files.specs.Words.{Text}

-- How a run ends whose last line goes on at the end: by standard error before and after, and by how many writes of
-- standard output had failed.
module _ {E : Type 0} (err_told : E → WriterTold) (old new : E) (failures_old failures_new : ℕ) where
  pub data IsEnded : (ended status : ExitStatus) → Type 0 where
    -- All went on.
    well : (ended : ExitStatus) → failures_new ≡ failures_old → new ≡ old → IsEnded ended ended
    -- Standard output failed, which is said.
    failed : (ended : ExitStatus) → failures_new ≡ raised failures_old 1 → IsTold (err_told old) (err_told new)
        → IsEnded ended IoFailed

-- By a writer that tells as what it holds what it was told.
module _ {F O P W E : Type 0} (known : F → Text → Known) (left : O → Option (List ℕ)) (painted_told : P → WriterTold)
    (out_told : W → WriterTold) (err_told : E → WriterTold) (sample : List ℕ) (files : F) where
  pub record WentOn (words : List Text) (lines : Option Lines) (before : Option (List ℕ)) (old new : W × E)
      (status : ExitStatus) : Type 0 where
    pub first : P
    pub last : P
    pub err : E
    pub ended : ExitStatus
    -- All that was done is as without colour, over a writer that held nothing; at last it has this text.
    pub nothing : painted_told first ≡ record { held = Some []; failures = (out_told old.0).failures }
    pub ran : RanAsked known left painted_told err_told sample files words (first, old.1) (last, err) ended
    pub text : List ℕ
    pub told : (painted_told last).held ≡ Some text
    -- That has gone on in its colours, if no write has failed.
    pub shown_text : (out_told new.0).failures ≡ 0 → Appends before (out_told new.0).held (shown (all_pieces lines text))
    pub ends : IsEnded err_told err new.1 (painted_told last).failures (out_told new.0).failures ended status

  pub data RanPainted (words : List Text) (lines : Option Lines) (before : Option (List ℕ)) (old new : W × E)
      (status : ExitStatus) : Type 0 where
    ran : WentOn words lines before old new status → RanPainted words lines before old new status
    -- There was no memory for what is held of lines.
    no_memory : HadNoMemory known left out_told err_told sample files old new status
        → RanPainted words lines before old new status
