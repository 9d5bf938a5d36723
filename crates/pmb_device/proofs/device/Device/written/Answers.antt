use Rattle.pmb_device.proofs.Stopping.{none_written, some_written}
use Rattle.pmb_device.proofs.device.Device.written.Goals as goal

pub returns-then-self-clause-took : goal.returns-then-self-clause-took
returns-then-self-clause-took c = λ device legs known.
    c.kept.ensures.took device legs (some_written c.args.self.now device legs c.if-self.true known)

pub returns-else-self-clause-took : goal.returns-else-self-clause-took
returns-else-self-clause-took c = λ device legs known.
    none_written c.args.self.now device legs c.if-self.false known
