use Rattle.pmb_reader.specs.Reader.{ReaderStandsAt, behind_resync}
use Rattle.pmb_reader.proofs.Modes.{while_held}
use Rattle.pmb_reader.proofs.reader.Reader.resync.Goals as goal

pub returns-in-Held-clause-resumes : goal.returns-in-Held-clause-resumes
returns-in-Held-clause-resumes c = λ profile.
    while_held profile c.args.self.now (λ s. ReaderStandsAt profile _ (behind_resync s)) _ c.in-Held.is
    (λ n refusal same stands. record { mode = tt; counted = stands.counted; inside = stands.inside })
