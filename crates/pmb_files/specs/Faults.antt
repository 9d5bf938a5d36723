-- What stops a run before anything is read for it, and the line that says so on standard error.
use Rattle.std.specs.Prelude.{◌≡◌, ◌⊎◌, ℕ, List, ◌++◌, codes}
use Rattle.std.specs.Io.KnownBytes.{Appends}
use Rattle.pmb_io.specs.Count.{raised}
use Rattle.pmb_io.specs.Told.{WriterTold}
use Rattle.pmb_json_text.specs.Spelling.{all_escaped}
use Rattle.pmb_args.specs.ExitStatus.{IsTold}
use Rattle.pmb_args.specs.declared.exit_status.ExitStatus.{ExitStatus}
use Rattle.pmb_args.specs.declared.exit_status.ExitStatus.TheVariants.{BadArguments, NoMemory}
use Rattle.pmb_files.specs.Words.{Text}
use Rattle.pmb_files.specs.declared.file_fault.FileFault.{FileFault}
use Rattle.pmb_files.specs.declared.file_fault.FileFault.TheVariants.{NoSuchFile, IsDirectory, PermissionDenied, Other}

-- A line about a file. In its name each byte that is not printable ASCII, and `"` and `\`, is `\u00` and its digits.
abbrev pub file_line : Text → List ℕ → List ℕ
file_line name what = codes "pmb: " ++ (all_escaped name ++ (codes ": " ++ (what ++ codes "\n")))

-- A line about a subcommand.
abbrev pub command_line : Text → List ℕ → List ℕ
command_line name what = codes "pmb: " ++ (name ++ (codes ": " ++ (what ++ codes "\n")))

-- a line was written, or the writer failed
abbrev pub IsSaid : List ℕ → WriterTold → WriterTold → Type 0
IsSaid line old new = (Appends old.held new.held line × (new.failures ≡ old.failures)) ⊎ (new.failures ≡ raised old.failures 1)

-- why a file can't be read is said; of another fault the words are the system's
abbrev pub SaysFault : Text → FileFault → WriterTold → WriterTold → Type 0
SaysFault name NoSuchFile old new = IsSaid (file_line name (codes "no such file")) old new
SaysFault name IsDirectory old new = IsSaid (file_line name (codes "is a directory")) old new
SaysFault name PermissionDenied old new = IsSaid (file_line name (codes "permission denied")) old new
SaysFault name (Other error) old new = IsTold old new

-- It was said so, which is the status of bad arguments; or there was no memory to say it.
pub record IsReported (Says : WriterTold → WriterTold → Type 0) (old new : WriterTold) (status : ExitStatus) : Type 0 where
  pub says : status ≡ BadArguments → Says old new
  pub memory : status ≡ NoMemory → IsTold old new
  pub only : (status ≡ BadArguments) ⊎ (status ≡ NoMemory)
