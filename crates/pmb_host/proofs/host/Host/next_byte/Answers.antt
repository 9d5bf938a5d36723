use Rattle.std.proofs.Common.{ap, ◌∙◌, ℕ}
use Rattle.std.specs.List.{slice_get}
use Rattle.pmb_host.specs.machine.Legs.{coded_with, plain_bytes}
use Rattle.pmb_host.proofs.Bytes.{next_of_leg, some_leg}
use Rattle.pmb_host.proofs.host.Host.next_byte.Goals as goal

pub returns-in-Some : goal.returns-in-Some
returns-in-Some c = λ job heard at.
    c.byte_at.ensures ∙ ap (λ (n : ℕ). slice_get
    (coded_with c.in-Some.leg.pec c.args.self.now.crc (plain_bytes c.in-Some.leg)) n) c.from.ensures
    ∙ next_of_leg c.args.self.now job heard at _ c.leg_under_way.ensures.bytes c.leg_under_way.ensures.code _
    c.in-Some.is

pub returns-in-None : goal.returns-in-None
returns-in-None c = λ job heard at. absurd
    (some_leg c.args.self.now job heard at _ c.leg_under_way.ensures.bytes c.in-None.is)
