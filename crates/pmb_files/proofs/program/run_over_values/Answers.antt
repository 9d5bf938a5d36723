use Rattle.std.proofs.Common.{refl}
use Rattle.pmb_files.specs.Program.{no_memory, ran_values}
use Rattle.pmb_files.proofs.program.run_over_values.Goals as goal

-- The tool has run over their lines.
pub returns-in-Ok : goal.returns-in-Ok
returns-in-Ok g c =
    let over = rw (c.as_slice-in-Ok.ensures.value, c.as_slice-in-Ok-2.ensures.value, c.in-Ok.ensures, c.as_slice.ensures.value)
    at c.run_over.ensures in
    record { ran = (over.0, over.1, ran_values c.requires.asks c.requires.some over.2) }

-- There was no memory for these.
pub returns-in-Err : goal.returns-in-Err
returns-in-Err g c = record {
  ran = (
    c.report.result,
    c.code.ensures,
    no_memory (record { is = c.report.ensures.status; unwritten = refl; told = c.report.ensures.err_told }),
  );
}
