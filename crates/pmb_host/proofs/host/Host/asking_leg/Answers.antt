use Rattle.pmb_host.proofs.Bytes.{asked_first, asked_second}
use Rattle.pmb_host.proofs.host.Host.asking_leg.Goals as goal

pub returns-in-1-clause-bytes : goal.returns-in-1-clause-bytes
returns-in-1-clause-bytes c = λ small one. asked_first _ _ c.args.code c.args.self.now.leg c.count_of.result
    c.args.«data».now _ _ (c.write_address.ensures.seven_bits small) c.count_of.ensures c.in-1.is

pub returns-in-2-clause-bytes : goal.returns-in-2-clause-bytes
returns-in-2-clause-bytes c = λ small one. asked_second _ _ c.args.self.now.leg _
    (c.read_address.ensures.seven_bits small) c.in-2.is
