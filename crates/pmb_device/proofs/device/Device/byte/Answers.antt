use Rattle.pmb_device.proofs.device.Device.byte.Goals as goal

pub returns-in-Read : goal.returns-in-Read
returns-in-Read c = λ standing at.
    let asked = c.in-Read.ensures standing.device standing.state standing.legs at.exchange in
    c.be_read.ensures standing.device standing.state standing.legs c.args.byte asked.0 at.registers asked.1
