use Rattle.std.proofs.Common.{sym, subst, ◌∙◌}
use Rattle.pmb_command.specs.Parts.{DeviceParts}
use Rattle.pmb_transaction.specs.Body.{WriteBody}
use Rattle.pmb_device.proofs.Outcomes.{ends_outside, ends_so, no_own_outcome, no_write_outcome, noted_outcome}
use Rattle.pmb_device.proofs.Outcomes.{silent_outcome, write_outcome}
use Rattle.pmb_device.proofs.TakenWrites.{few_bytes, write_is_taken}
use Rattle.pmb_device.proofs.TookWrites.{took_kept, took_none, took_none_outside}
use Rattle.pmb_device.proofs.device_packet.DevicePacket.outcome.Goals as goal
use Rattle.pmb_device.proofs.device_packet.DevicePacket.outcome.Goals.{then-self-via-else-self+then-self-2}
use Rattle.pmb_device.proofs.device_packet.DevicePacket.outcome.Goals.{then-self-via-then-self}

pub returns-in-Outside-clause-ends : goal.returns-in-Outside-clause-ends
returns-in-Outside-clause-ends c = λ device state legs stands. ends_outside c.args.self.now device state legs stands
    c.in-Outside.is

pub returns-then-not-self-clause-ends : goal.returns-then-not-self-clause-ends
returns-then-not-self-clause-ends c = λ device state legs stands.
    ends_so c.args.self.now device state legs state stands c.in_default.not-Outside
    (no_own_outcome c.args.self.now device state c.if-not-self.true)

pub returns-in-Some-clause-ends : goal.returns-in-Some-clause-ends
returns-in-Some-clause-ends c = λ device state legs stands.
    ends_so c.args.self.now device state legs _ stands c.in_default.not-Outside
    (noted_outcome c.args.self.now device state c.in-Some.bit c.if-not-self.false c.in-Some.is)

pub returns-then-self-clause-ends : goal.returns-then-self-clause-ends
returns-then-self-clause-ends c = λ device state legs stands.
    ends_so c.args.self.now device state legs state stands c.in_default.not-Outside
    (silent_outcome c.args.self.now device state c.in_default-noted.is
    (λ taken unread. elim c.then-self.branch [
      | then-self-via-then-self w ↦ cc (sym w.if-self.true ∙ taken)
      | then-self-via-else-self+then-self-2 w ↦ cc (sym w.if-self-2.true ∙ unread)
    ]))

pub returns-in-Some-says-clause-ends : goal.returns-in-Some-says-clause-ends
returns-in-Some-says-clause-ends c = λ device state legs stands.
    ends_so c.args.self.now device state legs _ stands c.in_default.not-Outside
    (write_outcome c.args.self.now device state c.in-Some-says.said.code c.in-Some-says.said.bytes.now
    c.in-Some-says.said.pec
    c.if-not-self.false c.if-self.false c.if-self-2.false c.in-Some-says.ensures.says)

pub returns-in-None-clause-ends : goal.returns-in-None-clause-ends
returns-in-None-clause-ends c = λ device state legs stands.
    ends_so c.args.self.now device state legs state stands c.in_default.not-Outside
    (no_write_outcome c.args.self.now device state c.if-not-self.false c.if-self.false c.if-self-2.false
    (λ body. cc (c.in-None.ensures.some.1 body)))

pub returns-in-Some-says-clause-taken : goal.returns-in-Some-says-clause-taken
returns-in-Some-says-clause-taken c = λ device state legs stands.
    write_is_taken c.args.self.now device state legs _ _ c.in-Some-says.said.pec c.in_default.not-Outside
    c.if-not-self.false c.if-self.false
    c.in-Some-says.ensures.says stands

pub returns-in-Some-says-clause-few : goal.returns-in-Some-says-clause-few
returns-in-Some-says-clause-few c = few_bytes _ _ _ c.in-Some-says.said.pec _ c.in-Some-says.ensures.says

pub returns-in-Outside-clause-tells : goal.returns-in-Outside-clause-tells
returns-in-Outside-clause-tells c = λ device state legs stands.
    took_none_outside c.args.self.now device state legs stands c.in-Outside.is

pub returns-then-not-self-clause-tells : goal.returns-then-not-self-clause-tells
returns-then-not-self-clause-tells c = λ device state legs stands.
    took_none c.args.self.now device state legs stands c.in_default.not-Outside
    (λ part k. cc (sym k.own ∙ c.if-not-self.true))

pub returns-in-Some-clause-tells : goal.returns-in-Some-clause-tells
returns-in-Some-clause-tells c = λ device state legs stands.
    took_none c.args.self.now device state legs stands c.in_default.not-Outside
    (λ part k. cc (sym c.in-Some.is ∙ k.not_noted))

pub returns-then-self-clause-tells : goal.returns-then-self-clause-tells
returns-then-self-clause-tells c = λ device state legs stands.
    took_none c.args.self.now device state legs stands c.in_default.not-Outside
    (λ part k. elim c.then-self.branch [
      | then-self-via-then-self w ↦ cc (sym w.if-self.true ∙ k.not_refused)
      | then-self-via-else-self+then-self-2 w ↦ cc (sym w.if-self-2.true ∙ k.unread)
    ])

pub returns-in-Some-says-clause-tells : goal.returns-in-Some-says-clause-tells
returns-in-Some-says-clause-tells c = λ device state legs stands.
    took_kept c.args.self.now device state legs c.in_default.not-Outside c.if-not-self.false c.if-self.false
    c.if-self-2.false
    (c.in-Some-says.said.code, c.in-Some-says.said.bytes.now, c.in-Some-says.said.pec, c.in-Some-says.ensures.says)
    stands

pub returns-in-None-clause-tells : goal.returns-in-None-clause-tells
returns-in-None-clause-tells c = λ device state legs stands.
    took_none c.args.self.now device state legs stands c.in_default.not-Outside
    (
    λ part k.
    let x = c.args.self.now in
    let body = subst (λ (d : DeviceParts). WriteBody d part.code part.bytes part.pec x.leg.bytes) (sym k.device_is)
    k.body in
    cc (c.in-None.ensures.some.1 (part.code, part.bytes, part.pec, body))
    )
