use Rattle.pmb_command.proofs.WireLemmas.{exact_wire}
use Rattle.pmb_command.proofs.form.Form.wire_length.Goals as goal

pub returns-in-Some-default-clause-length : goal.returns-in-Some-default-clause-length
returns-in-Some-default-clause-length c =
    exact_wire c.args.self c.in-Some-default.exact c.args.bytes.now c.in-Some-default.ensures.only
