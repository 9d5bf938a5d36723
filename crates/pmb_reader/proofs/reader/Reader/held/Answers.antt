use Rattle.std.proofs.Common.{Some}
use Rattle.pmb_reader.specs.Reader.{IsHeldAt}
use Rattle.pmb_reader.proofs.Modes.{while_held}
use Rattle.pmb_reader.proofs.reader.Reader.held.Goals as goal

pub returns-in-Held : goal.returns-in-Held
returns-in-Held c = λ profile.
    let held = c.in-Held.refusal in
    while_held profile c.args.self.now (λ s. IsHeldAt s (Some held)) held c.in-Held.is (λ n refusal same stands. same)
