-- Why a profile's file makes no head, as it was said.
use Rattle.std.specs.Prelude.{◌≡◌, ◌++◌, ℕ, List, codes}
use Rattle.std.specs.Fmt.{decimal}
use Rattle.pmb_io.specs.Told.{WriterTold}
use Rattle.pmb_args.specs.ExitStatus.{IsTold}
use Rattle.pmb_args.specs.declared.exit_status.ExitStatus.{ExitStatus}
use Rattle.pmb_args.specs.declared.exit_status.ExitStatus.TheVariants.{IoFailed, NoMemory}
use Rattle.pmb_files.specs.Faults.{IsReported, IsSaid, file_line}
use Rattle.pmb_files.specs.Head.{HasMarkAt, IsTooLong, with_line_end}
use Rattle.pmb_files.specs.Known.{Known}
use Rattle.pmb_files.specs.Program.{IsReadOf}
use Rattle.pmb_files.specs.Words.{Text}

pub data FailsHead (known : Known) (profile : Text) (old new : WriterTold) (status : ExitStatus) : Type 0 where
  too_long : (bytes : List ℕ) → IsReadOf known bytes → IsTooLong (with_line_end bytes)
      → IsReported (IsSaid (file_line profile (codes "profile too long"))) old new status
      → FailsHead known profile old new status
  has_mark : (bytes : List ℕ) → IsReadOf known bytes → (line : ℕ) → HasMarkAt (with_line_end bytes) line
      → IsReported (IsSaid (file_line profile (codes "line " ++ (decimal line ++ codes " is %%")))) old new status
      → FailsHead known profile old new status
  unread : status ≡ IoFailed → IsTold old new → FailsHead known profile old new status
  memory : status ≡ NoMemory → IsTold old new → FailsHead known profile old new status
