use Rattle.pmb_host.proofs.Checked.{call_faults, read_faults}
use Rattle.pmb_host.proofs.laws.faults_are_those_of_check.Goals as goal

pub returns-clause-reads : goal.returns-clause-reads
returns-clause-reads c = λ profile command reply invalid fits. read_faults profile command reply invalid fits

pub returns-clause-calls : goal.returns-clause-calls
returns-clause-calls c = λ profile command bytes reply invalid fits. call_faults profile command reply invalid bytes
    fits
