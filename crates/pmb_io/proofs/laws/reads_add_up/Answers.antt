use Rattle.pmb_io.proofs.Running.{gave_nothing, gave_then}
use Rattle.pmb_io.proofs.Writing.{consumes_nothing, consumes_then, keeps_consumes}
use Rattle.pmb_io.proofs.laws.reads_add_up.Goals as goal

pub returns : goal.returns
returns c = record {
  both = consumes_then;
  nothing = consumes_nothing;
  kept = keeps_consumes;
  both_given =
      gave_then;
  nothing_given = gave_nothing;
}
