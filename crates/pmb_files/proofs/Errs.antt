-- A run of the tool that said what it has to say to one writer, and the same run where that was passed on to another.
-- For `run_over`.
use Rattle.std.proofs.Common.{◌≡◌, List, ℕ}
use Rattle.pmb_io.specs.Told.{ReaderTold, WriterTold}
use Rattle.pmb_args.specs.Asked.{Asking}
use Rattle.pmb_args.specs.ExitStatus.{EndedWell, Failed, IsTold}
use Rattle.pmb_args.specs.declared.exit_status.ExitStatus.{ExitStatus}
use Rattle.pmb_cli.specs.Program.{RanProgram}
use Rattle.pmb_cli.specs.Tasks.{DidTask}

module _ {R W E F : Type 0} (reader_told : R → ReaderTold) (out_told : W → WriterTold) (err_told : E → WriterTold)
    (other_told : F → WriterTold) (sample : List ℕ) (reader reader_new : R) (out out_new : W) (err err_new : E)
    (other other_new : F) (status : ExitStatus) (quiet : EndedWell status → other_new ≡ other)
    (said : Failed status → IsTold (other_told other) (other_told other_new)) where
  task_said : (asking : Asking)
      → DidTask reader_told out_told err_told sample asking (reader, out, err) (reader_new, out_new, err_new) status
      → DidTask reader_told out_told other_told sample asking (reader, out, other) (reader_new, out_new, other_new)
      status
  task_said asking did = record {
    did = did.did;
    tells = did.tells;
    bad = did.bad;
    bad_format = did.bad_format;
    memory = did.memory;
    err_text = said;
    quiet = quiet;
  }

  pub program_said : (words : List (List ℕ))
      → RanProgram reader_told out_told err_told sample words (reader, out, err) (reader_new, out_new, err_new) status
      → RanProgram reader_told out_told other_told sample words (reader, out, other) (reader_new, out_new, other_new)
      status
  program_said words ran = record {
    did = λ asking asks. task_said asking (ran.did asking asks);
    json = ran.json;
    sums = ran.sums;
    unread = ran.unread;
    out_text = ran.out_text;
    not_refusals = ran.not_refusals;
    helped = ran.helped;
    refused = ran.refused;
    unwritten = ran.unwritten;
    nothing = ran.nothing;
    nothing_unread = ran.nothing_unread;
    bad = ran.bad;
    tells = ran.tells;
    err_text = said;
    quiet = quiet;
  }
