use Rattle.std.proofs.Common.{◌+◌, ◌++◌, sym, subst}
use Rattle.pmb_device.specs.declared.signal.DeviceSignal.{DeviceSignal}
use Rattle.pmb_host.specs.declared.step.HostStep.{HostStep}
use Rattle.pmb_host.specs.declared.step.HostStep.TheVariants.{Done, Failed}
use Rattle.pmb_host.specs.Host.{Steps}
use Rattle.pmb_exchange.specs.machine.Standing.{Stands}
use Rattle.pmb_exchange.proofs.Steps.{end_step, send_step}
use Rattle.pmb_exchange.proofs.exchange.Exchange.next.Goals as goal

pub returns-in-Send : goal.returns-in-Send
returns-in-Send c = λ standing stands.
    let recorded = c.signal-recorded.result in
    let both =
    send_step standing c.next.new.self c.args.bus.now c.signal-recorded.new.self recorded.result c.args.self.now.host
    c.args.self.now.answer
    c.in-Send.signal recorded.events c.signal-recorded.ensures.events stands
    (λ hs is. subst (λ (s : HostStep). Steps hs c.args.self.now.answer s c.next.new.self) c.in-Send.is
    (c.next.ensures hs is))
    (λ bs is. c.signal-recorded.ensures.takes bs is) in (
      both.0,
      subst
          (
          λ (a : DeviceSignal).
          Stands c.next.new.self a c.signal-recorded.new.self
          (record standing { events = standing.events ++ recorded.events; sent = standing.sent + 1 })
          ) (sym c.answer-self.ensures) both.1,
    )

pub returns-in-Done : goal.returns-in-Done
returns-in-Done c = λ standing stands.
    end_step c.runs_are_exchanges.ensures standing c.next.new.self c.args.bus.now (Done c.in-Done.reply)
    (λ hs heard first. (first.0, (first.1.reply, first.1.succeeds, first.1.told))) c.args.self.now.host
    c.args.self.now.answer stands
    (λ hs is. subst (λ (s : HostStep). Steps hs c.args.self.now.answer s c.next.new.self) c.in-Done.is
    (c.next.ensures hs is))

pub returns-in-Failed : goal.returns-in-Failed
returns-in-Failed c = λ standing stands.
    end_step c.runs_are_exchanges.ensures standing c.next.new.self c.args.bus.now (Failed c.in-Failed.fault)
    (λ hs heard first. (first.0, first.1))
    c.args.self.now.host c.args.self.now.answer stands
    (λ hs is. subst (λ (s : HostStep). Steps hs c.args.self.now.answer s c.next.new.self) c.in-Failed.is
    (c.next.ensures hs is))
