use Rattle.std.proofs.Common.{◌≡◌, ◌∙◌, List, ℕ, refl, ap, sym, subst}
use native.Mathlib.Omega.{arith}
use mir.Syntax.{w32}
use mir.Val.{of_z, to_z}
use Rattle.pmb_i2c.specs.declared.message.MessageEnd.{MessageEnd}
use Rattle.pmb_message.specs.declared.message.Message.{Message}
use Rattle.pmb_bus_session.specs.Session.{SendsMessage}
use Rattle.pmb_bus_session.specs.Work.{ActsFor}
use Rattle.pmb_bus_session.specs.declared.work.BusAnswer.{BusAnswer}
use Rattle.pmb_bus_session.specs.declared.work.BusStatus.{BusStatus}
use Rattle.pmb_bus_session.specs.declared.work.BusStatus.TheVariants as did
use Rattle.pmb_bus_session.specs.declared.work.BusTask.{BusTask}
use Rattle.pmb_c.specs.Bus.{Sent, end_of, length_after, message_error}
use Rattle.pmb_c.proofs.bus.pmb_bus_message.Goals as goal
use Rattle.pmb_c.proofs.bus.pmb_bus_message.Goals.{in-Done, in_default}

-- of a message that was not done the length stays
stays : (status : BusStatus) (asked count : ℕ) → (status ≡ did.Done → ⊥) → asked ≡ length_after status asked count
stays did.Done asked count not_done = absurd (not_done refl)
stays did.Closed asked count not_done = refl
stays did.Memory asked count not_done = refl
stays did.Busy asked count not_done = refl
stays did.NoDevice asked count not_done = refl
stays did.Refused asked count not_done = refl
stays did.BadCount asked count not_done = refl
stays did.BadAddress asked count not_done = refl
stays did.BadLength asked count not_done = refl
stays did.BadFlags asked count not_done = refl

-- each error is a number of 32 bits
fits : (status : BusStatus) → to_z w32 (of_z w32 (message_error status)) ≡ message_error status
fits did.Done = refl
fits did.Closed = refl
fits did.Memory = refl
fits did.Busy = refl
fits did.NoDevice = refl
fits did.Refused = refl
fits did.BadCount = refl
fits did.BadAddress = refl
fits did.BadLength = refl
fits did.BadFlags = refl

-- the session sent the message, with the bytes of the room that it was lent
pub returns-after-answer : goal.returns-after-answer
returns-after-answer c =
    let got = c.in-Some.ensures.acts in
    let ended : MessageEnd → Message = λ end. record {
      address = c.args.address;
      flags = c.args.flags;
      length = c.args.length.now;
      end = end;
    } in
    let message = ended (end_of c.args.last) in
    let sends = subst (λ (asked : BusTask). ActsFor asked got.0 got.1 c.new-work.result c.act.new.work)
    c.new-work.ensures.task got.4.acts in
    let of_end = subst (λ (end : MessageEnd). SendsMessage (ended end) c.new-work.result.room.now c.act.new.work.room.now got.0
    got.1 c.act.new.work.answer) c.end_of.ensures sends in
    let of_room = subst (λ (before : List ℕ). SendsMessage message before c.act.new.work.room.now got.0 got.1
    c.act.new.work.answer) (ap (λ room. room.now) c.new-work.ensures.room) of_end in
    let answered = subst (λ (answer : BusAnswer). SendsMessage message c.args.bytes.now c.act.new.work.room.now got.0 got.1
    answer) got.5 of_room in
    let name = sym (ap (λ room. room.ghost_name) c.new-work.ensures.room) ∙ sym c.act.ensures.same in
    let length_is : c.match-answer.length ≡ length_after c.in-Some.answer.status c.args.length.now c.in-Some.answer.count =
    elim c.match-answer.branch [
      | in-Done w ↦ w.length-is ∙ sym (ap (λ (status : BusStatus). length_after status c.args.length.now c.in-Some.answer.count)
          w.in-Done.is)
      | in_default w ↦ w.length-is ∙ stays c.in-Some.answer.status c.args.length.now c.in-Some.answer.count w.in_default.not-Done
    ] in
    Sent got.0 got.1 c.in-Some.answer got.2 got.3
    (subst (λ (bytes : List ℕ). SendsMessage message c.args.bytes.now bytes got.0 got.1 c.in-Some.answer)
    (sym (grind (arith, name))) answered)
    length_is (rw c.message_error.ensures (fits c.in-Some.answer.status))
