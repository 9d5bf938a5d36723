use Rattle.std.proofs.Common.{◌∙◌, ap, sym, subst, [], ◌∷◌}
use Rattle.pmb_bus.specs.declared.event.Event.TheVariants.{Byte}
use Rattle.pmb_device.specs.declared.signal.DeviceSignal.{DeviceSignal}
use Rattle.pmb_devices.specs.Bus.{recorded}
use Rattle.pmb_devices.specs.Signal.{BusTakes}
use Rattle.pmb_i2c.specs.Message.{answered}
use Rattle.pmb_i2c.proofs.InTurn.{asked_on_wire, gives_one, other_on_wire}
use Rattle.pmb_i2c.proofs.signals.give.Goals as goal

-- A byte was asked for: it is on the wire, whoever gave it.
pub returns-then-is_ask : goal.returns-then-is_ask
returns-then-is_ask g c =
    let answer = c.answer-answer.result in
    gives_one (answered c.args.signal answer) c.args.bus.now c.signal-recorded.new.self (Byte c.byte_of.result ∷ []) _ _
    (asked_on_wire c.args.signal answer c.byte_of.result (c.is_ask.ensures.0 c.if-is_ask.true) c.byte_of.ensures)
    (λ standing stands.
    subst (λ (a : DeviceSignal). BusTakes standing c.args.signal a c.signal-recorded.new.self) (sym c.answer-answer.ensures)
    (c.signal-recorded.ensures.takes standing stands))
    c.hear.ensures

-- Another signal: what is recorded of it is on the wire.
pub returns : goal.returns
returns g c =
    let answer = c.answer-answer.result in
    gives_one (answered c.args.signal answer) c.args.bus.now c.signal-recorded.new.self c.events.result.now _ _
    (c.events.ensures ∙ c.signal-recorded.ensures.events
    ∙ ap (λ (a : DeviceSignal). recorded c.args.signal a) (sym c.answer-answer.ensures)
    ∙ other_on_wire c.args.signal answer
    (λ is_ask. let took = c.is_ask.ensures.1 is_ask in let is_other = c.if-is_ask.false in cc (took, is_other)))
    (λ standing stands.
    subst (λ (a : DeviceSignal). BusTakes standing c.args.signal a c.signal-recorded.new.self) (sym c.answer-answer.ensures)
    (c.signal-recorded.ensures.takes standing stands))
    c.hear-2.ensures
