-- What `pmb json` writes, whatever it reads: lines of JSON.
use Rattle.std.specs.Prelude.{◌≡◌, ◌≢◌, ◌⊎◌, ℕ, Some, List}
use Rattle.std.specs.Io.KnownBytes.{Appends}
use Rattle.pmb_io.specs.Count.{raised}
use Rattle.pmb_io.specs.Told.{ReaderTold, WriterTold}
use Rattle.pmb_json.specs.Lines.{AreJsonLines}
use Rattle.pmb_json_text.specs.Spelling.{AreBytes}
use Rattle.pmb_args.specs.declared.exit_status.ExitStatus.{ExitStatus}
use Rattle.pmb_args.specs.declared.exit_status.ExitStatus.TheVariants.{IoFailed}

-- A reader tells the bytes that it has left, and each is below 256, as those of a slice of bytes are.
pub record TellsBytes (told : ReaderTold) : Type 0 where
  pub bytes : List ℕ
  pub left : told.left ≡ Some bytes
  pub small : AreBytes bytes

-- What a writer got is lines of JSON, and nothing else.
pub record AppendsJson (old new : WriterTold) : Type 0 where
  pub text : List ℕ
  pub appended : Appends old.held new.held text
  pub lines : AreJsonLines text

-- By standard output, before and after, and by the status.
pub record WroteJson (old new : WriterTold) (status : ExitStatus) : Type 0 where
  -- Where no read and no write failed: all lines, or none.
  pub lines : status ≢ IoFailed → AppendsJson old new
  -- Where a read failed or there were too many, the lines so far. A write that failed may have cut one.
  pub part : status ≡ IoFailed → (new.failures ≡ raised old.failures 1) ⊎ AppendsJson old new
