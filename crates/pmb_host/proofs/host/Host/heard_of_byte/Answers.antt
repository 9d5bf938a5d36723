use Rattle.std.proofs.Common.{◌++◌, sym, subst, arith}
use Rattle.pmb_host.specs.Host.{FirstSteps}
use Rattle.pmb_host.specs.machine.Standing.{answered, with_signal}
use Rattle.pmb_device.specs.declared.signal.HostSignal.TheVariants.{Byte}
use Rattle.pmb_host.proofs.Stopping.{refused_stops}
use Rattle.pmb_host.proofs.host.Host.heard_of_byte.Goals as goal

pub returns-in_default : goal.returns-in_default
returns-in_default c = λ standing sent.
    let place = c.saturating_sub.ensures in
    subst (λ last. FirstSteps standing (standing.heard ++ answered last c.args.answer) c.stop.result c.stop.new.self)
    (sym sent.last_is)
    (c.stop.ensures standing _ (refused_stops c.args.self.now standing.job standing.heard standing.last
    c.saturating_sub.result c.is_at_read.result c.args.answer sent
    c.in_default.not-Ack (omega (arith, place)) c.is_at_read.ensures))

pub returns-in-Ack : goal.returns-in-Ack
returns-in-Ack c = λ standing sent.
    subst (λ last. FirstSteps standing (standing.heard ++ answered last c.args.answer) c.go_on.result c.go_on.new.self)
    (sym sent.last_is)
    (subst (λ answer. FirstSteps standing (with_signal standing.heard (Byte sent.byte) answer) c.go_on.result
    c.go_on.new.self) (sym c.in-Ack.is) (c.go_on.ensures standing _ sent.acked))
