use Rattle.pmb_reader.specs.declared.reader.Took.TheVariants.{Continues, Refused}
use Rattle.pmb_reader.specs.Reader.{ReaderTakes}
use Rattle.pmb_reader.proofs.Modes.{while_open, while_held, while_passing}
use Rattle.pmb_reader.proofs.reader.Reader.take.Goals as goal

pub returns-in-Open : goal.returns-in-Open
returns-in-Open c = λ profile.
    while_open profile c.args.self.now (λ s. ReaderTakes profile s c.args.event c.read.result c.read.new.self)
    c.in-Open.is (c.read.ensures profile)

pub returns-in-Held : goal.returns-in-Held
returns-in-Held c = λ profile.
    let held = c.in-Held.refusal in
    while_held profile c.args.self.now (λ s. ReaderTakes profile s c.args.event (Refused held) c.args.self.now) held
    c.in-Held.is (λ n refusal same stands. (same, stands))

pub returns-in-Passing : goal.returns-in-Passing
returns-in-Passing c = λ profile.
    while_passing profile c.args.self.now (λ s. ReaderTakes profile s c.args.event Continues c.pass.new.self)
    c.in-Passing.is (c.pass.ensures profile)
