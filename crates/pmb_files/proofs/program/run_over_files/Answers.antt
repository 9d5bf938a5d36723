use Rattle.std.proofs.Common.{refl}
use Rattle.pmb_files.specs.Faults.{SaysFault}
use Rattle.pmb_files.specs.Program.{unreadable}
use Rattle.pmb_files.proofs.Ran.{reported}
use Rattle.pmb_files.proofs.program.run_over_files.Goals as goal

-- One of them can't be read.
pub returns-in-Err : goal.returns-in-Err
returns-in-Err g c = record {
  ran = (
    c.report_file.result,
    c.code.ensures,
    reported _ _ _ _ _ _ _ _ _ _ (SaysFault c.in-Err.name.now c.in-Err.fault) c.report_file.ensures refl
        (unreadable c.requires c.in-Err.name.now c.in-Err.fault c.in-Err.ensures),
  );
}
